-- What a sink took, of one text and of two.
use Rattle.std.specs.Prelude.{◌≡◌, ℕ, suc, ◌+◌, List, [], ◌∷◌, ◌++◌, length, take, Bool, true, false, Option}
use Rattle.std.proofs.Common.{refl, ap, sym, subst, ◌∙◌, arith}
use Rattle.std.proofs.lemmas.List.{length-append, take-append-le, take_all}
use Rattle.chew_spec_outside.specs.Faults.{Rose}
use Rattle.chew_spec_outside.specs.Sink.{appended}
use Rattle.chew_spec_outside.proofs.Contents.{appended-twice}
use Rattle.chew_spec_program.specs.Writing.{Sunk, Writes, sunk}

pub writes-taken : (sink : Sunk) (text : List ℕ) → Writes sink text false → sink.now ≡ appended sink.before text
writes-taken sink text writes =
    let all : writes.count ≡ length text = writes.whole refl in
    writes.took ∙ ap (appended sink.before) (take_all writes.count text (omega arith))

-- a front of two texts that reaches into the second
take-behind : (one other : List ℕ) (n : ℕ) → one ++ take n other ≡ take (length one + n) (one ++ other)
take-behind [] other n = ap (λ m. take m other) (omega arith)
take-behind (x ∷ one) other n =
    ap (λ rest. x ∷ rest) (take-behind one other n) ∙ ap (λ m. take m (x ∷ (one ++ other))) (let e : suc (length one + n) ≡ suc (length one) + n = omega arith in e)

-- a text that was taken whole, and another behind it
pub writes-joined : (before middle now : Option (List ℕ)) (first second third : ℕ) (one other : List ℕ) (failed : Bool)
    → Writes (sunk before middle first second) one false → Writes (sunk middle now second third) other failed
    → Writes (sunk before now first third) (one ++ other) failed
writes-joined before middle now first second third one other failed whole writes =
    let calm : second ≡ first = whole.worked refl in
    record {
      count = length one + writes.count;
      took = writes.took ∙ ap (λ o. appended o (take writes.count other)) (writes-taken (sunk before middle first second) one whole)
          ∙ appended-twice before one (take writes.count other) ∙ ap (appended before) (take-behind one other writes.count);
      whole = λ e. ap (λ n. length one + n) (writes.whole e) ∙ sym (length-append one other);
      worked = λ e. writes.worked e ∙ calm;
      cut = λ e. omega (arith, writes.cut e, length-append one other);
      rose = λ e. subst (λ n. Rose n third) calm (writes.rose e);
    }

-- a text at which the sink failed, and another that would stand behind it
pub writes-ended : (sink : Sunk) (one other : List ℕ) → Writes sink one true → Writes sink (one ++ other) true
writes-ended sink one other writes =
    let cut = writes.cut refl in
    record {
      count = writes.count;
      took = writes.took ∙ ap (appended sink.before) (sym (take-append-le writes.count one other (omega arith)));
      whole = λ e. absurd (cc e);
      worked = λ e. absurd (cc e);
      cut = λ _. omega (arith, length-append one other);
      rose = writes.rose;
    }
