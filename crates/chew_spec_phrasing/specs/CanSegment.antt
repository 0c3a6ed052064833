-- When a run surely has a segmentation.
use Rattle.std.specs.Prelude.{◌≡◌, ℕ, ◌<◌, ◌≤◌, true, false, List, All, AllPairs}
use Rattle.std.specs.List.{list_any}
use Rattle.chew_spec_dictionary.specs.Call.{Hit}
use Rattle.chew_spec_dictionary.specs.Look.{Interval}
use Rattle.chew_spec_phrasing.specs.CombinedRows.{is_hit_at}
use Rattle.chew_spec_phrasing.specs.Usable.{Choice, HaveOwnLengths, Piece, agrees, choice_end, lies_in, meets, phrase_len}

-- the interval of one cell, that of a choice's cells and that of a piece's
abbrev pub cell_at : ℕ → Interval
cell_at cell = record { start = cell; len = 1 }

abbrev pub interval_of : Choice → Interval
interval_of choice = record { start = choice.start; len = phrase_len choice.phrase }

abbrev pub interval_of_piece : Piece → Interval
interval_of_piece piece = record { start = piece.start; len = phrase_len piece.phrase }

-- rows as long as their phrases, choices within the run of n syllables and apart, and a row of length 1 for each
-- cell that no choice has
pub record CanSegment (rows : List Hit) (choices : List Choice) (n : ℕ) : Type 0 where
  pub rows_have_lengths : HaveOwnLengths rows
  pub choices_have_cells : All (λ choice. 0 < phrase_len choice.phrase) choices
  pub choices_within : All (λ choice. choice_end choice ≤ n) choices
  pub choices_apart : AllPairs (λ choice other. meets (interval_of choice) other ≡ false) choices
  pub has_singles : (cell : ℕ) → cell < n → list_any (meets (cell_at cell)) choices ≡ false → list_any (is_hit_at (cell_at cell)) rows ≡ true

-- the piece's phrase has the choice's characters at the choice's cells
pub record Shows (piece : Piece) (choice : Choice) : Type 0 where
  pub lies : lies_in (interval_of_piece piece) choice ≡ true
  pub same : agrees (interval_of_piece piece) piece.phrase choice ≡ true
