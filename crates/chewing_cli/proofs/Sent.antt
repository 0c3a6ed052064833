-- What a sink took of one text, and of one behind another.
use Rattle.std.specs.Prelude.{◌≡◌, ℕ, suc, ◌+◌, ◌<◌, ◌≤◌, List, [], ◌∷◌, ◌++◌, length, map, take, drop, Bool, Option, Result, Ok, Err, OnOk, OnErr, is_err, true, false}
use Rattle.std.proofs.Common.{refl, ap, ap₂, sym, subst, ◌∙◌, arith, get_or}
use Rattle.std.proofs.lemmas.List.{append_assoc, take_all}
use Rattle.chew_spec_outside.specs.Faults.{HasCause}
use Rattle.chew_spec_outside.specs.Sink.{appended}
use Rattle.chew_spec_rounds.specs.Round.{Round}
use Rattle.chew_spec_program.specs.Output.{contexts_from, header, round_line, rounds_from}
use Rattle.chew_spec_program.specs.Writing.{Sunk, Writes, sunk}
use Rattle.chew_spec_program.proofs.Writings.{writes-ended, writes-joined}

pub sends : {T E : Type 0} (before now : Option (List ℕ)) (faults_before faults_now : ℕ) (bytes : List ℕ) (outcome : Result T E)
    → HasCause faults_before faults_now (is_err outcome) → OnOk outcome (now ≡ appended before bytes)
    → OnErr outcome ((n : ℕ) × (n < length bytes) × (now ≡ appended before (take n bytes))) → Writes (sunk before now faults_before faults_now) bytes (is_err outcome)
sends before now faults_before faults_now bytes (Ok value) cause ok err = record {
  count = length bytes;
  took = ok ∙ ap (appended before) (sym (take_all (length bytes) bytes (omega arith)));
  whole = λ _. refl;
  worked = λ _. cause.same refl;
  cut = λ failed. absurd (cc failed);
  rose = λ failed. absurd (cc failed);
}
sends before now faults_before faults_now bytes (Err failed) cause ok err = record {
  count = err.0;
  took = err.2;
  whole = λ worked. absurd (cc worked);
  worked = λ worked. absurd (cc worked);
  cut = λ _. err.1;
  rose = λ _. cause.rose refl;
}

-- the first context behind its header, and the others
pub contexts_first : {X : Type 0} (view : X → List ℕ) (number : ℕ) (xs : List X) (x d : X) (others : List X) → 1 ≤ length xs → x ≡ get_or xs 0 d → others ≡ drop 1 xs
    → (header number ++ view x) ++ contexts_from (number + 1) (map view others) ≡ contexts_from number (map view xs)
contexts_first view number [] x d others some is behind = absurd (omega arith)
contexts_first view number (y ∷ ys) x d others some is behind =
    ap (λ zs. (header number ++ view x) ++ contexts_from (number + 1) (map view zs)) behind
    ∙ ap₂ (λ z n. (header number ++ view z) ++ contexts_from n (map view ys)) is (let e : number + 1 ≡ suc number = omega arith in e)
    ∙ append_assoc (header number) (view y) (contexts_from (suc number) (map view ys))

-- the line of the first round, and the others
pub rounds_first : {X : Type 0} (view : X → Round) (number : ℕ) (xs : List X) (x d : X) (others : List X) → 1 ≤ length xs → x ≡ get_or xs 0 d → others ≡ drop 1 xs
    → round_line number (view x) ++ rounds_from (number + 1) (map view others) ≡ rounds_from number (map view xs)
rounds_first view number [] x d others some is behind = absurd (omega arith)
rounds_first view number (y ∷ ys) x d others some is behind =
    ap (λ zs. round_line number (view x) ++ rounds_from (number + 1) (map view zs)) behind
    ∙ ap₂ (λ z n. round_line number (view z) ++ rounds_from n (map view ys)) is (let e : number + 1 ≡ suc number = omega arith in e)

-- the sink failed at the first of two texts, which is passed on, or at the second, or took both
pub ended_first : (sink : Sunk) (one other whole bytes : List ℕ) (failed told : Bool) → one ++ other ≡ whole → bytes ≡ one → failed ≡ true → told ≡ true
    → Writes sink bytes failed → Writes sink whole told
ended_first sink one other whole bytes failed told joined same ended passed writes =
    subst (λ text. Writes sink text told) joined
    (subst (λ b. Writes sink (one ++ other) b) (sym passed)
    (writes-ended sink one other (subst (λ text. Writes sink text true) same (subst (λ b. Writes sink bytes b) ended writes))))

pub sent_both : (before middle now : Option (List ℕ)) (first second third : ℕ) (one other whole bytes : List ℕ) (failed : Bool) → one ++ other ≡ whole → bytes ≡ one
    → Writes (sunk before middle first second) bytes false → Writes (sunk middle now second third) other failed
    → Writes (sunk before now first third) whole failed
sent_both before middle now first second third one other whole bytes failed joined same head rest =
    subst (λ text. Writes (sunk before now first third) text failed) joined
    (writes-joined before middle now first second third one other failed (subst (λ text. Writes (sunk before middle first second) text false) same head) rest)
