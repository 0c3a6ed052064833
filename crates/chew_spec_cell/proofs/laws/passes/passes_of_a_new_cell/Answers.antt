-- Each law is a lemma.
use Rattle.chew_spec_cell.proofs.Passes.{length-new_passes, ours-new_passes, slice_get-new_passes}
use Rattle.chew_spec_cell.proofs.laws.passes.passes_of_a_new_cell.Goals as goal

pub returns-clause-count : goal.returns-clause-count
returns-clause-count c = length-new_passes

pub returns-clause-ours : goal.returns-clause-ours
returns-clause-ours c = ours-new_passes

pub returns-clause-each : goal.returns-clause-each
returns-clause-each c = slice_get-new_passes
