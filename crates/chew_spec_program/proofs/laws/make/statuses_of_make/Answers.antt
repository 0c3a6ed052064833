-- By how it ends.
use Rattle.chew_spec_program.proofs.Make.{make-listed, make-sink}
use Rattle.chew_spec_program.proofs.laws.make.statuses_of_make.Goals as goal

pub returns : goal.returns
returns c = record { listed = make-listed; sink = make-sink }
