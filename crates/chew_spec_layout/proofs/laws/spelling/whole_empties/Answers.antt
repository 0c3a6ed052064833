-- By the outcomes of a key.
use Rattle.chew_spec_layout.proofs.Spelling.{empties}
use Rattle.chew_spec_layout.proofs.laws.spelling.whole_empties.Goals as goal

pub returns : goal.returns
returns c = empties
