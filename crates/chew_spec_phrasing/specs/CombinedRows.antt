-- Combined rows: the user's rows hide those of the system that have the same phrase.
use Rattle.std.specs.Prelude.{ℕ, Bool, false, not, ◌&&◌, List, ◌++◌, map, filter, flat_map, length, ◌==◌, nat_le, bytes_eq, if◌then◌else◌}
use Rattle.std.specs.List.{list_any}
use Rattle.chew_spec_syllable.specs.Row.{Row}
use Rattle.chew_spec_dictionary.specs.Call.{Hit}
use Rattle.chew_spec_dictionary.specs.HiddenPairs.{hidden_time, shown_rows}
use Rattle.chew_spec_dictionary.specs.Look.{Interval, intervals, codes_at, shown_cmp}
pub use Rattle.chew_spec_dictionary.specs.Look.{shown_hit_cmp}
use Rattle.chew_spec_dictionary.specs.Order.{in_order}
use Rattle.chew_spec_dictionary.specs.System.{rows_of, rows_under}

-- some row has the phrase
abbrev pub has_phrase : List Row → List ℕ → Bool
has_phrase rows phrase = list_any (λ row. bytes_eq row.phrase phrase) rows

-- the user's rows of a key that are not hidden, and those of the system whose phrase the user has not for it, hidden or
-- not, as they are shown
abbrev pub combined : List Row → List Row → List ℕ → List Row
combined system user key =
    in_order shown_cmp (shown_rows (rows_under user key) ++ filter (λ row. not (has_phrase (rows_under user key) row.phrase)) (rows_under system key))

-- the hit is one of the interval
abbrev pub is_hit_at : Interval → Hit → Bool
is_hit_at at hit = (hit.start == at.start) && (hit.len == at.len)

-- a hit as a row of its key, of which no more is known than whether it is hidden
abbrev pub row_of_hit : List ℕ → Hit → Row
row_of_hit key hit = record { key = key; phrase = hit.phrase; freq = hit.freq; time = if hit.hidden then hidden_time else 0 }

-- the rows of an interval that a look-up of the run found
abbrev pub found_rows : List ℕ → List Hit → Interval → List Row
found_rows run hits at =
    map (row_of_hit (codes_at run at)) (filter (is_hit_at at) hits)

-- a combined row as a hit of the interval
abbrev pub shown_hit : Interval → Row → Hit
shown_hit at row = record { start = at.start; len = at.len; phrase = row.phrase; freq = row.freq; hidden = false }

-- a hit is shown where it isn't hidden; one of a single syllable always is
abbrev pub is_shown : Hit → Bool
is_shown hit = not (hit.hidden && nat_le 2 hit.len)

-- a hit as it is shown
abbrev pub as_shown : Hit → Hit
as_shown hit = record hit { hidden = false }

-- the hits of an interval that are shown
abbrev pub shown_at : Interval → List Hit → List Hit
shown_at at hits = map as_shown (filter is_shown (filter (is_hit_at at) hits))

-- the combined rows of every interval of a run, by start, then length, given what a look-up found
unfoldable pub combined_hits : List Row → List ℕ → List Hit → List Hit
combined_hits system run hits =
    flat_map (λ at. map (shown_hit at) (combined system (found_rows run hits at) (codes_at run at))) (intervals (length run))

-- no hit has the row's phrase
abbrev pub is_free_of : List Hit → Row → Bool
is_free_of hits row = not (list_any (λ hit. bytes_eq hit.phrase row.phrase) hits)

-- the hits of an interval that are shown, and then those of the system's rows that are free of all that were found
abbrev pub unsorted_hits : List Row → List ℕ → List Hit → Interval → List Hit
unsorted_hits system run hits at =
    shown_at at hits ++ map (shown_hit at) (filter (is_free_of (filter (is_hit_at at) hits)) (rows_of system (codes_at run at)))
