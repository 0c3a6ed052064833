-- By the lemmas on what is in step.
use Rattle.chew_spec_rounds.proofs.InStep.{found-in-step, others-in-step}
use Rattle.chew_spec_rounds.proofs.laws.in_step.in_step_from_the_start.Goals as goal

pub returns-clause-found : goal.returns-clause-found
returns-clause-found g c = λ keep start. found-in-step keep g.D.AnyDisks.now start

pub returns-clause-others : goal.returns-clause-others
returns-clause-others g c = λ keep start seen now. others-in-step keep g.D.AnyDisks.now start seen now
