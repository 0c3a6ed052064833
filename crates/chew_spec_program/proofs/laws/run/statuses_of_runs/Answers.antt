use Rattle.chew_spec_program.proofs.Runs.{run-disk, run-sink, run-source, run-statuses, run-words}
use Rattle.chew_spec_program.proofs.laws.run.statuses_of_runs.Goals as goal

pub returns : goal.returns
returns g c = record {
  all = λ words ended. run-statuses words g.O.AnyOutside.outside ended;
  words = λ words ended. run-words words g.O.AnyOutside.outside ended;
  source = λ words ended. run-source words g.O.AnyOutside.outside ended;
  sink = λ words ended. run-sink words g.O.AnyOutside.outside ended;
  disk = λ words ended. run-disk words g.O.AnyOutside.outside ended;
}
