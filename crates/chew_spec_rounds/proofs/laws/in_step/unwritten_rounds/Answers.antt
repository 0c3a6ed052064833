-- By the lemmas on what is in step.
use Rattle.std.specs.Prelude.{◌++◌}
use Rattle.chew_spec_rounds.proofs.InStep.{in-step-grown, round-holds, unwritten-round}
use Rattle.chew_spec_rounds.proofs.laws.in_step.unwritten_rounds.Goals as goal

pub returns-clause-in_step : goal.returns-clause-in_step
returns-clause-in_step g c = λ keep start seen more round l step none calls.
    in-step-grown keep g.D.AnyDisks.now start seen more (seen ++ more) (round-holds start seen more round l none calls) step

pub returns-clause-round : goal.returns-clause-round
returns-clause-round g c = λ keep start seen more round. unwritten-round keep g.D.AnyDisks.now start seen more round
