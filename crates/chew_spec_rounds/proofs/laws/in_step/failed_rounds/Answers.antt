-- By the lemmas on rounds that write.
use Rattle.chew_spec_rounds.proofs.Writing.{failed-in-step, failed-round}
use Rattle.chew_spec_rounds.proofs.laws.in_step.failed_rounds.Goals as goal

pub returns-clause-in_step : goal.returns-clause-in_step
returns-clause-in_step g c = λ keep keep_then start seen more number saved failed.
    failed-in-step keep keep_then g.D.AnyDisks.before g.D.AnyDisks.now start seen more number saved failed

pub returns-clause-round : goal.returns-clause-round
returns-clause-round g c = λ keep keep_then start seen more number step saved failed.
    failed-round keep keep_then g.D.AnyDisks.before g.D.AnyDisks.now start seen more number step saved failed
