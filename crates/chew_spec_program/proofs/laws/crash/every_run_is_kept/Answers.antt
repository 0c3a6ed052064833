use Rattle.chew_spec_program.proofs.Kept.{run-kept}
use Rattle.chew_spec_program.proofs.laws.crash.every_run_is_kept.Goals as goal

pub returns : goal.returns
returns g c = λ words ended start run. run-kept words g.O.AnyOutside.outside ended start run
