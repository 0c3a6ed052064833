-- By the lemma on a last round.
use Rattle.chew_spec_rounds.proofs.LastRounds.{last-round}
use Rattle.chew_spec_rounds.proofs.laws.last_rounds.a_last_round_saves_all.Goals as goal

pub returns : goal.returns
returns g c = λ start seen seen_then number l none round. last-round start seen seen_then g.D.AnyDisks.before g.D.AnyDisks.now number l none round
