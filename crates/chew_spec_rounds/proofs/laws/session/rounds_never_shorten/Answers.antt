-- By induction over the rounds.
use Rattle.chew_spec_rounds.proofs.Sessions.{rounds-session}
use Rattle.chew_spec_rounds.proofs.laws.session.rounds_never_shorten.Goals as goal

pub returns : goal.returns
returns g c = λ start history rounds. rounds-session start history g.R.AnyRounds.seen g.R.AnyRounds.disks rounds
