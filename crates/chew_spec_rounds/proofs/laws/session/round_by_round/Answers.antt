-- By induction over the rounds.
use Rattle.chew_spec_rounds.proofs.OwnCalls.{own-calls}
use Rattle.chew_spec_rounds.proofs.laws.session.round_by_round.Goals as goal

pub returns : goal.returns
returns g c = λ start history rounds. own-calls start history g.R.AnyRounds.seen g.R.AnyRounds.disks rounds
