-- The passes of the numbers so far, and the first seat as it was.
use Rattle.std.proofs.Common.{◌≡◌, vec_len, vec_capacity}
use Rattle.chew_spec_cell.specs.Pass.{new_passes}
use Rattle.chew_cell.proofs.cell.Cell.passes.Given as goal

abbrev pub invariant-numbering : goal.invariant-numbering
invariant-numbering g l =
    (l.passes.items ≡ new_passes l.self l.who) × (vec_len l.passes ≡ l.who) × (vec_capacity l.passes ≡ vec_capacity l.initial.passes)
    × (l.first.table_id ≡ l.initial.first.table_id) × (l.first.me ≡ l.initial.first.me)
