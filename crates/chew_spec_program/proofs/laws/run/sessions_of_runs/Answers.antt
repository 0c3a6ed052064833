use Rattle.chew_spec_program.proofs.Refused.{done-faults, done-from, done-legal, done-quiet, done-rounds, done-seqs, done-unwritten}
use Rattle.chew_spec_program.proofs.laws.run.sessions_of_runs.Goals as goal

pub returns : goal.returns
returns g c = record {
  legal = λ inputs trace ended done. done-legal inputs trace g.O.AnyOutside.outside.sink g.O.AnyOutside.outside.disk ended done;
  rounds = λ inputs trace ended done. done-rounds inputs trace g.O.AnyOutside.outside.sink g.O.AnyOutside.outside.disk ended done;
  last_from = λ inputs trace ended done. done-from inputs trace g.O.AnyOutside.outside.sink g.O.AnyOutside.outside.disk ended done;
  seqs = λ inputs trace ended done. done-seqs inputs trace g.O.AnyOutside.outside.sink g.O.AnyOutside.outside.disk ended done;
  faults = λ inputs trace ended done. done-faults inputs trace g.O.AnyOutside.outside.sink g.O.AnyOutside.outside.disk ended done;
  calm = λ inputs trace ended done. done-quiet inputs trace g.O.AnyOutside.outside.sink g.O.AnyOutside.outside.disk ended done;
  unwritten = λ inputs trace ended done. done-unwritten inputs trace g.O.AnyOutside.outside.sink g.O.AnyOutside.outside.disk ended done;
}
