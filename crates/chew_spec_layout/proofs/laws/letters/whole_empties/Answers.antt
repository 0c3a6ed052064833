-- By what each key does.
use Rattle.chew_spec_layout.proofs.Lettered.{empties}
use Rattle.chew_spec_layout.proofs.laws.letters.whole_empties.Goals as goal

pub returns : goal.returns
returns c = empties
