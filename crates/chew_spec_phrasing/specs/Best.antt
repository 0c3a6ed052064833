-- The best segmentation: none has a greater score, and of equal scores it is longer at the first difference.
use Rattle.std.specs.Prelude.{◌≡◌, ℕ, ◌+◌, false, List, [], Option, unwrap_or, if◌then◌else◌}
use Rattle.std.specs.List.{reduce}
use Rattle.std.specs.declared.cmp.Ordering.{Ordering}
use Rattle.std.specs.Ordering.{is_lt, nat_cmp, ordering_then}
use Rattle.std.specs.Cmp.Lexicographic.{slice_cmp}
use Rattle.chew_spec_dictionary.specs.Call.{Hit}
use Rattle.chew_spec_dictionary.specs.Look.{Interval}
use Rattle.chew_spec_phrasing.specs.Score.{gain, loss}
use Rattle.chew_spec_phrasing.specs.Segmentation.{IsSegmentation, segmentations, lengths, freqs}
use Rattle.chew_spec_phrasing.specs.Usable.{Choice, Piece, piece_at}

-- by score: the gain of one with the loss of the other
abbrev pub score_cmp : List Piece → List Piece → Ordering
score_cmp pieces other = nat_cmp (gain (lengths pieces) (freqs pieces) + loss (lengths other))
    (gain (lengths other) (freqs other) + loss (lengths pieces))

-- by score, then by the first lengths that differ
abbrev pub segmentation_cmp : List Piece → List Piece → Ordering
segmentation_cmp pieces other = ordering_then (score_cmp pieces other) (slice_cmp nat_cmp (lengths pieces) (lengths other))

-- the greater of two
abbrev pub better : List Piece → List Piece → List Piece
better pieces other = if is_lt (segmentation_cmp pieces other) then other else pieces

-- the best of all segmentations of a run of n syllables, where there is one
unfoldable pub best_of : List Hit → List ℕ → List Choice → ℕ → Option (List Piece)
best_of rows breaks choices n = reduce better (segmentations (piece_at rows breaks choices) n)

-- its pieces
abbrev pub best_pieces : List Hit → List ℕ → List Choice → ℕ → List Piece
best_pieces rows breaks choices n = unwrap_or (best_of rows breaks choices n) []

-- a segmentation of n syllables that no other exceeds
pub record IsBest (usable : Interval → Option Piece) (n : ℕ) (best : List Piece) : Type 0 where
  pub is_one : IsSegmentation usable 0 n best
  pub unbeaten : (other : List Piece) → IsSegmentation usable 0 n other → is_lt (segmentation_cmp best other) ≡ false
