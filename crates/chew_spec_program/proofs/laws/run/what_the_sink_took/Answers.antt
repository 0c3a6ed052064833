use Rattle.chew_spec_program.proofs.Taken.{took-lines, took-some}
use Rattle.chew_spec_program.proofs.laws.run.what_the_sink_took.Goals as goal

pub returns : goal.returns
returns g c = record {
  front = λ inputs trace ended done. took-some inputs trace g.O.AnyOutside.outside.sink g.O.AnyOutside.outside.disk ended done;
  lines = λ inputs trace ended done calm. took-lines inputs trace g.O.AnyOutside.outside.sink g.O.AnyOutside.outside.disk ended done calm;
}
