-- By the lemma on installs.
use Rattle.chew_spec_rounds.proofs.Rounds.{number-waits}
use Rattle.chew_spec_rounds.proofs.laws.rounds.the_number_that_waits.Goals as goal

pub returns : goal.returns
returns c = λ start frozen installs number. number-waits start frozen installs number
