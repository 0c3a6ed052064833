use Rattle.std.proofs.Common.{refl, arith}
use Rattle.chew_spec_program.proofs.laws.writing.known_writes.Goals as goal

pub returns-clause-whole : goal.returns-clause-whole
returns-clause-whole c = record {
  count = 3;
  took = refl;
  whole = λ _. refl;
  worked = λ _. refl;
  cut = λ failed. absurd (cc failed);
  rose = λ failed. absurd (cc failed);
}

pub returns-clause-part : goal.returns-clause-part
returns-clause-part c = record {
  count = 2;
  took = refl;
  whole = λ worked. absurd (cc worked);
  worked = λ worked. absurd (cc worked);
  cut = λ _. omega arith;
  rose = λ _. omega arith;
}
