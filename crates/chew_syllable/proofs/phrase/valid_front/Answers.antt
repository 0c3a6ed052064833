-- The front before the fault.
use Rattle.chew_syllable.proofs.PhraseFront.{front_before_fault}
use Rattle.chew_syllable.proofs.phrase.valid_front.Goals as goal

pub returns-in-Err : goal.returns-in-Err
returns-in-Err c =
    front_before_fault c.args.text.now c.utf8_of.result.now _ c.valid_up_to.result c.in-Err.ensures.cases.1 c.valid_up_to.ensures c.utf8_of.ensures
