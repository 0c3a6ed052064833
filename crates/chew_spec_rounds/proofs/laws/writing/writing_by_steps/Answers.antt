-- By the lemmas on the three steps one after the other.
use Rattle.chew_spec_rounds.proofs.Steps.{filling-fails, lifting-fails, shutting-fails, steps-done}
use Rattle.chew_spec_rounds.proofs.laws.writing.writing_by_steps.Goals as goal

pub returns-clause-shutting_fails : goal.returns-clause-shutting_fails
returns-clause-shutting_fails g c = λ keep keep_shut saved fault failed. shutting-fails g.S.AnySteps.before g.S.AnySteps.shut keep keep_shut saved fault failed

pub returns-clause-filling_fails : goal.returns-clause-filling_fails
returns-clause-filling_fails g c = λ keep keep_shut saved done fault failed. filling-fails g.S.AnySteps.before g.S.AnySteps.shut g.S.AnySteps.filled keep keep_shut saved done fault failed

pub returns-clause-lifting_fails : goal.returns-clause-lifting_fails
returns-clause-lifting_fails g c = λ keep keep_shut keep_lifted saved done fault failed.
    lifting-fails g.S.AnySteps.before g.S.AnySteps.shut g.S.AnySteps.filled g.S.AnySteps.lifted keep keep_shut keep_lifted saved done fault failed

pub returns-clause-done : goal.returns-clause-done
returns-clause-done g c = λ keep keep_shut keep_lifted saved done.
    steps-done g.S.AnySteps.before g.S.AnySteps.shut g.S.AnySteps.filled g.S.AnySteps.lifted keep keep_shut keep_lifted saved done
