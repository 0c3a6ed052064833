-- The window of candidates: what may stand at a place of the buffer, a list for each length, shown a page at a time.
use Rattle.std.specs.Prelude.{ℕ, suc, ◌+◌, ◌-◌, ◌*◌, ◌/◌, min, Bool, true, not, ◌&&◌, List, [], ◌∷◌, map, filter, length, reverse, take, drop, slice_get, ◌==◌, nat_lt, nat_le, Option, None, option_map, if◌then◌else◌}
use Rattle.std.specs.Option.{option_map_or}
use Rattle.std.specs.List.{list_all, range_with_len}
use Rattle.chew_spec_dictionary.specs.Call.{Hit}
use Rattle.chew_spec_dictionary.specs.Look.{Interval}
use Rattle.chew_spec_phrasing.specs.CombinedRows.{is_hit_at}
use Rattle.chew_spec_phrasing.specs.Usable.{Choice, is_unbroken}
use Rattle.chew_spec_preedit.specs.InTurn.{is_in_turn}

-- the candidates of one length
pub record CandidateList : Type 0 where
  pub len : ℕ
  pub rows : List Hit

-- the place in the buffer, the lists by length falling, how many candidates a page has, and what is shown now: the list
-- by its place among the lists, and its page, counted from 1
pub record Window : Type 0 where
  pub place : ℕ
  pub lists : List CandidateList
  pub per_page : ℕ
  pub list : ℕ
  pub page : ℕ

-- the lengths that an interval of a run of n syllables may have from a place on, the longest first
abbrev pub lengths_at : ℕ → ℕ → List ℕ
lengths_at n place = reverse (range_with_len 1 (min 11 (n - place)))

-- the combined rows of one length from a place on
abbrev pub candidates_of : List Hit → ℕ → ℕ → CandidateList
candidates_of rows place len = record { len = len; rows = filter (is_hit_at (record { start = place; len = len })) rows }

-- no break lies strictly inside so many syllables from a place on
abbrev pub is_whole_at : List ℕ → ℕ → ℕ → Bool
is_whole_at breaks place len = is_unbroken breaks (record { start = place; len = len })

-- the list has a candidate
abbrev pub has_candidate : CandidateList → Bool
has_candidate list = nat_lt 0 (length list.rows)

-- the lists for a place of a run of n syllables, given the combined rows of the run and its breaks
unfoldable pub candidate_lists : List Hit → List ℕ → ℕ → ℕ → List CandidateList
candidate_lists rows breaks n place =
    filter has_candidate (map (candidates_of rows place) (filter (is_whole_at breaks place) (lengths_at n place)))

-- the window opens at the longest list and its first page
abbrev pub opened : ℕ → List CandidateList → ℕ → Window
opened place lists per_page = record { place = place; lists = lists; per_page = per_page; list = 0; page = 1 }

-- each list is longer than those that follow it
abbrev pub is_falling : List CandidateList → Bool
is_falling lists = is_in_turn (λ list later. nat_lt later.len list.len) lists

-- the candidates that are shown over all pages, and how many pages there are
abbrev pub rows_shown : Window → List Hit
rows_shown window = option_map_or (λ list. list.rows) (slice_get window.lists window.list) []

abbrev pub pages_of : Window → ℕ
pages_of window = (length (rows_shown window) + (window.per_page - 1)) / window.per_page

-- the candidates of the page
unfoldable pub on_page : Window → List Hit
on_page window = take window.per_page (drop ((window.page - 1) * window.per_page) (rows_shown window))

-- what every window keeps: lists by length falling, each with candidates; up to ten on a page; and a list and a page of it
unfoldable pub is_window : Window → Bool
is_window window =
    is_falling window.lists && (list_all has_candidate window.lists
    && (nat_le 1 window.per_page && (nat_le window.per_page 10
    && (nat_lt window.list (length window.lists) && (nat_le 1 window.page && nat_le window.page (pages_of window))))))

-- the first page of the next shorter list, and behind the last list of the longest
unfoldable pub shorter : Window → Window
shorter window = record window {
  list = if suc window.list == length window.lists then 0 else suc window.list;
  page = 1;
}

-- the next page, and behind the last one the first
unfoldable pub next_page : Window → Window
next_page window = record window { page = if window.page == pages_of window then 1 else suc window.page }

-- the page before, and before the first one the last
unfoldable pub page_before : Window → Window
page_before window = record window { page = if window.page == 1 then pages_of window else window.page - 1 }

-- the candidate as a choice at the place
abbrev pub choice_of : ℕ → Hit → Choice
choice_of place hit = record { start = place; phrase = hit.phrase; freq = hit.freq }

-- the choice that the k-th candidate of the page makes, counted from 0, where there is one
unfoldable pub picked : Window → ℕ → Option Choice
picked window k = option_map (choice_of window.place) (slice_get (on_page window) k)
