-- By the lemma on rounds where nothing waits.
use Rattle.chew_spec_rounds.proofs.Rounds.{only-old}
use Rattle.chew_spec_rounds.proofs.laws.rounds.only_what_was_acknowledged.Goals as goal

pub returns : goal.returns
returns g c = λ start seen seen_then. only-old start seen seen_then g.D.AnyDisks.before g.D.AnyDisks.now
