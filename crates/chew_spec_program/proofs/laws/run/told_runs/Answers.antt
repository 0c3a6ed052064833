use Rattle.chew_spec_program.proofs.ToldRuns.{run-complete, run-refused, run-room}
use Rattle.chew_spec_program.proofs.laws.run.told_runs.Goals as goal

pub returns : goal.returns
returns g c = record {
  refused = λ words ended set left keys refusal run zeroth first second told calm e.
      run-refused words g.O.AnyOutside.outside ended set left keys refusal run zeroth first second (record { told = told; calm = calm }) e;
  complete = λ words ended set left keys inputs run zeroth first second told calm quiet e.
      run-complete words g.O.AnyOutside.outside ended set left keys inputs run zeroth first second (record { told = told; calm = calm }) quiet e;
  room = λ words ended set left keys inputs run zeroth first second told calm quiet e room.
      run-room words g.O.AnyOutside.outside ended set left keys inputs run zeroth first second (record { told = told; calm = calm }) quiet e room;
}
