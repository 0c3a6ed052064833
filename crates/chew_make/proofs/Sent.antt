-- What a sink took of one text.
use Rattle.std.specs.Prelude.{◌≡◌, ℕ, ◌<◌, List, length, take, Option, Result, Ok, Err, OnOk, OnErr, is_err}
use Rattle.std.proofs.Common.{refl, ap, sym, ◌∙◌, arith}
use Rattle.std.proofs.lemmas.List.{take_all}
use Rattle.chew_spec_outside.specs.Faults.{HasCause}
use Rattle.chew_spec_outside.specs.Sink.{appended}
use Rattle.chew_spec_program.specs.Writing.{Writes, sunk}

pub sends : {T E : Type 0} (before now : Option (List ℕ)) (faults_before faults_now : ℕ) (bytes : List ℕ) (outcome : Result T E)
    → HasCause faults_before faults_now (is_err outcome) → OnOk outcome (now ≡ appended before bytes)
    → OnErr outcome ((n : ℕ) × (n < length bytes) × (now ≡ appended before (take n bytes))) → Writes (sunk before now faults_before faults_now) bytes (is_err outcome)
sends before now faults_before faults_now bytes (Ok value) cause ok err = record {
  count = length bytes;
  took = ok ∙ ap (appended before) (sym (take_all (length bytes) bytes (omega arith)));
  whole = λ _. refl;
  worked = λ _. cause.same refl;
  cut = λ failed. absurd (cc failed);
  rose = λ failed. absurd (cc failed);
}
sends before now faults_before faults_now bytes (Err failed) cause ok err = record {
  count = err.0;
  took = err.2;
  whole = λ worked. absurd (cc worked);
  worked = λ worked. absurd (cc worked);
  cut = λ _. err.1;
  rose = λ _. cause.rose refl;
}
