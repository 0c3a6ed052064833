-- What was moved is moved back.
use Rattle.chew_spec_preedit.proofs.Undone.{inserted-backspaced}
use Rattle.chew_spec_preedit.proofs.laws.undone.backspace_undoes_insert.Goals as goal

pub returns : goal.returns
returns c = record { same = inserted-backspaced }
