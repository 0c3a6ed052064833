-- By the lemmas on rounds that write.
use Rattle.chew_spec_rounds.proofs.Writing.{saved-in-step, saved-round}
use Rattle.chew_spec_rounds.proofs.laws.in_step.saved_rounds.Goals as goal

pub returns-clause-in_step : goal.returns-clause-in_step
returns-clause-in_step g c = λ keep keep_then start seen more rest number saved done.
    saved-in-step keep keep_then g.D.AnyDisks.before g.D.AnyDisks.now start seen more rest number saved done

pub returns-clause-round : goal.returns-clause-round
returns-clause-round g c = λ keep keep_then start seen more rest number saved done.
    saved-round keep keep_then g.D.AnyDisks.before g.D.AnyDisks.now start seen more rest number saved done
