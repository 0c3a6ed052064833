-- A table of the best orders of lengths: for each number of syllables that are left up to the run's end, an entry for
-- each multiset of lengths.
use Rattle.std.specs.Prelude.{◌≡◌, ℕ, suc, ◌+◌, ◌-◌, ◌*◌, ◌^◌, ◌<◌, ◌≤◌, false, List, [], ◌∷◌, zip, sum_by, Contains, slice_get, slice_index, Option, Some}
use Rattle.std.specs.Ordering.{is_lt}
use Rattle.chew_spec_dictionary.specs.Look.{Interval}
use Rattle.chew_spec_phrasing.specs.Best.{segmentation_cmp}
use Rattle.chew_spec_phrasing.specs.Score.{difference, spread, weight}
use Rattle.chew_spec_phrasing.specs.Segmentation.{GivesOwn, IsSegmentation, freqs, lengths}
use Rattle.chew_spec_phrasing.specs.Usable.{Piece, phrase_len}
use Rattle.chew_phrasing.specs.Counts.{counts_of, no_counts, one_more, sum_over}

-- an order of a multiset of lengths: what its frequencies count, its differences of lengths, its first length, and the
-- entry of what follows that
pub record Entry : Type 0 where
  pub counts : List ℕ
  pub freq : ℕ
  pub spread : ℕ
  pub len : ℕ
  pub rest : ℕ

-- the order of no lengths
abbrev pub end_of_run : Entry
end_of_run = record { counts = no_counts; freq = 0; spread = 0; len = 0; rest = 0 }

-- an order behind a piece of this length, whose frequency counts so much
abbrev pub behind : (len weight place : ℕ) → Entry → Entry
behind len weight place entry = record {
  counts = one_more len entry.counts;
  freq = entry.freq + weight;
  spread = entry.spread + sum_over (difference len) 1 entry.counts;
  len = len;
  rest = place;
}

-- the entries of a level from this place on, each behind such a piece
abbrev pub all_behind : (len weight place : ℕ) → List Entry → List Entry
all_behind len weight place [] = []
all_behind len weight place (entry ∷ entries) = behind len weight place entry ∷ all_behind len weight (suc place) entries

-- what the frequencies of pieces count
abbrev pub weights : List Piece → ℕ
weights pieces = sum_by weight (zip (lengths pieces) (freqs pieces))

-- the entry of what follows the first piece of an entry's order
pub record GoesOn (levels : List (List Entry)) (left : ℕ) (entry next : Entry) : Type 0 where
  pub from_one : 1 ≤ entry.len
  pub within : entry.len ≤ left
  pub level : List Entry
  pub is_level : slice_get levels (left - entry.len) ≡ Some level
  pub is : slice_get level entry.rest ≡ Some next

-- the pieces have the lengths that the entries tell, one behind the other, up to the run's end
abbrev pub Leads : List (List Entry) → (left : ℕ) → Entry → List Piece → Type 0
Leads levels left entry [] = left ≡ 0
Leads levels left entry (piece ∷ pieces) =
    (phrase_len piece.phrase ≡ entry.len) × ((next : Entry) × GoesOn levels left entry next × Leads levels (left - entry.len) next pieces)

-- the numbers of an entry are small
pub record IsSmall (left : ℕ) (entry : Entry) : Type 0 where
  pub counts : (place : ℕ) → slice_index entry.counts place ≤ left
  pub freq : entry.freq ≤ left * 2 ^ 32
  pub spread : entry.spread ≤ left * 2 ^ 20

-- some pieces have those lengths
pub record HasOrder (levels : List (List Entry)) (left : ℕ) (entry : Entry) : Type 0 where
  pub order : List Piece
  pub leads : Leads levels left entry order

-- something follows the first piece
pub record CanGoOn (levels : List (List Entry)) (left : ℕ) (entry : Entry) : Type 0 where
  pub next : Entry
  pub goes_on : GoesOn levels left entry next

-- the entry stands for these pieces, a segmentation of the last syllables of a run of n, of which so many are left
pub record Stands (usable : Interval → Option Piece) (levels : List (List Entry)) (n left : ℕ) (entry : Entry) (pieces : List Piece) : Type 0 where
  pub is_one : IsSegmentation usable (n - left) left pieces
  pub counts : entry.counts ≡ counts_of (lengths pieces)
  pub freq : entry.freq ≡ weights pieces
  pub spread : entry.spread ≡ spread (lengths pieces)
  pub leads : Leads levels left entry pieces

-- the entry stands for an order of a run of n
pub record IsOfRun (usable : Interval → Option Piece) (levels : List (List Entry)) (n : ℕ) (entry : Entry) : Type 0 where
  pub order : List Piece
  pub stands : Stands usable levels n n entry order
  pub small : IsSmall n entry

-- each usable interval gives a piece of its own, of at most 11 syllables
pub record GivesPieces (usable : Interval → Option Piece) : Type 0 where
  pub own : GivesOwn usable
  pub short : (at : Interval) (piece : Piece) → usable at ≡ Some piece → at.len ≤ 11

-- some entry of the level stands for pieces of the same lengths in some order, and these don't exceed them
pub record Covers (usable : Interval → Option Piece) (levels : List (List Entry)) (n left : ℕ) (level : List Entry) (pieces : List Piece) : Type 0 where
  pub entry : Entry
  pub order : List Piece
  pub among : Contains level entry
  pub stands : Stands usable levels n left entry order
  pub alike : counts_of (lengths order) ≡ counts_of (lengths pieces)
  pub unbeaten : is_lt (segmentation_cmp order pieces) ≡ false

-- the entries of a level whose orders begin with a piece of more than so many syllables
pub record IsPart (usable : Interval → Option Piece) (levels : List (List Entry)) (n left above : ℕ) (level : List Entry) : Type 0 where
  pub each : (entry : Entry) → Contains level entry → (order : List Piece) × Stands usable levels n left entry order
  pub small : (entry : Entry) → Contains level entry → IsSmall left entry
  pub longer : (entry : Entry) → Contains level entry → above < entry.len
  pub covers : (piece : Piece) (rest : List Piece) → IsSegmentation usable (n - left) left (piece ∷ rest) → above < phrase_len piece.phrase
      → Covers usable levels n left level (piece ∷ rest)

-- the entries of a level
pub record IsLevel (usable : Interval → Option Piece) (levels : List (List Entry)) (n left : ℕ) (level : List Entry) : Type 0 where
  pub each : (entry : Entry) → Contains level entry → (order : List Piece) × Stands usable levels n left entry order
  pub small : (entry : Entry) → Contains level entry → IsSmall left entry
  pub covers : (pieces : List Piece) → IsSegmentation usable (n - left) left pieces → Covers usable levels n left level pieces

-- the entry stands for an order that no order of these entries exceeds
pub record IsTop (usable : Interval → Option Piece) (levels : List (List Entry)) (n : ℕ) (seen : List Entry) (best : Entry) : Type 0 where
  pub unbeaten : (entry : Entry) → Contains seen entry → (mine yours : List Piece) → Stands usable levels n n best mine → Stands usable levels n n entry yours
      → is_lt (segmentation_cmp mine yours) ≡ false

-- each level of the table is whole
pub record IsTable (usable : Interval → Option Piece) (n : ℕ) (levels : List (List Entry)) : Type 0 where
  pub each : (left : ℕ) (level : List Entry) → slice_get levels left ≡ Some level → IsLevel usable levels n left level
