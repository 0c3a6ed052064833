use Rattle.chew_spec_program.specs.Refusal.{refusal_line}
use Rattle.chew_spec_program.proofs.Refused.{calm-taken, was-refused}
use Rattle.chew_spec_program.proofs.laws.run.refused_runs.Goals as goal

pub returns : goal.returns
returns g c = record {
  ends = λ words ended refusal run e. (was-refused words g.O.AnyOutside.outside ended refusal run e).0.ends;
  front = λ words ended refusal run e.
      let refused = was-refused words g.O.AnyOutside.outside ended refusal run e in (refused.0.writes.count, refused.0.writes.took);
  line = λ words ended refusal run e calm.
      let refused = was-refused words g.O.AnyOutside.outside ended refusal run e in
      calm-taken g.O.AnyOutside.outside.sink (refusal_line refusal) refused.0.failed refused.0.writes calm;
  unwritten = λ words ended refusal run e. (was-refused words g.O.AnyOutside.outside ended refusal run e).1.unwritten;
  calm = λ words ended refusal run e. (was-refused words g.O.AnyOutside.outside ended refusal run e).1.calm;
}
