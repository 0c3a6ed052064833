use Rattle.chew_spec_program.proofs.ToldRuns.{run-refusal}
use Rattle.chew_spec_program.proofs.laws.run.told_refusals.Goals as goal

pub returns : goal.returns
returns g c = λ words ended set left keys run zeroth first second told calm.
    run-refusal words g.O.AnyOutside.outside ended set left keys run zeroth first second (record { told = told; calm = calm })
