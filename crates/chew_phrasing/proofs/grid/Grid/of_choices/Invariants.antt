-- The choices so far are pieces.
use Rattle.std.proofs.Common.{◌≡◌, ℕ, ◌≤◌, List, [], All, take}
use Rattle.chew_spec_phrasing.specs.Usable.{phrase_len, piece_at}
use Rattle.chew_phrasing.specs.Grid.{IsGrid}
use Rattle.chew_phrasing.proofs.grid.Grid.of_choices.Given as goal

abbrev pub invariant-loop-choice : goal.invariant-loop-choice
invariant-loop-choice l = record {
  cells : l.grid.cells ≡ l.fn.cells;
  short : All (λ choice. phrase_len choice.phrase ≤ 11) (take l.choice-index l.choices);
  grid : (breaks : List ℕ) → IsGrid (piece_at [] breaks (take l.choice-index l.choices)) l.grid;
}
