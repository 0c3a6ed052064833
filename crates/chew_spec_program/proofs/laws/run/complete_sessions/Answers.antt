use Rattle.chew_spec_program.proofs.Sessions.{done-room, no-faults, unspent}
use Rattle.chew_spec_program.proofs.laws.run.complete_sessions.Goals as goal

pub returns : goal.returns
returns g c = record {
  rounds = λ inputs trace ended done. no-faults inputs trace g.O.AnyOutside.outside.sink g.O.AnyOutside.outside.disk ended done;
  unspent = λ inputs trace ended done. unspent inputs trace g.O.AnyOutside.outside.sink g.O.AnyOutside.outside.disk ended done;
  status = λ inputs trace ended done. done-room inputs trace g.O.AnyOutside.outside.sink g.O.AnyOutside.outside.disk ended done;
}
