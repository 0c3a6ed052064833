use Rattle.chew_spec_program.proofs.Sessions.{all-done, done-disk, done-listed, done-spent, fault-told, spent-told}
use Rattle.chew_spec_program.proofs.laws.run.statuses_after_a_session.Goals as goal

pub returns : goal.returns
returns g c = record {
  disk = λ inputs trace ended done. done-disk inputs trace g.O.AnyOutside.outside.sink g.O.AnyOutside.outside.disk ended done;
  spent = λ inputs trace ended done. done-spent inputs trace g.O.AnyOutside.outside.sink g.O.AnyOutside.outside.disk ended done;
  disk_told = λ inputs trace ended done. fault-told inputs trace g.O.AnyOutside.outside.sink g.O.AnyOutside.outside.disk ended done;
  spent_told = λ inputs trace ended done. spent-told inputs trace g.O.AnyOutside.outside.sink g.O.AnyOutside.outside.disk ended done;
  listed = λ inputs trace ended done. done-listed inputs trace g.O.AnyOutside.outside.sink g.O.AnyOutside.outside.disk ended done;
  all_done = λ inputs trace ended done handled all. all-done inputs trace g.O.AnyOutside.outside.sink g.O.AnyOutside.outside.disk ended done all;
}
