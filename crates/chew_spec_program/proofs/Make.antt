-- How `make` ends.
use Rattle.std.specs.Prelude.{◌≡◌, ◌⊎◌, ℕ, Bool, true, false, List, [], ◌∷◌, Contains, Result, Ok, Err}
use Rattle.std.proofs.Common.{refl, ap, sym, subst, ◌∙◌, ⊎_elim, arith}
use Rattle.chew_spec_outside.specs.Faults.{Rose}
use Rattle.chew_spec_program.specs.Answer.{answer_status}
use Rattle.chew_spec_program.specs.Make.{IsMake, made_of}
use Rattle.chew_spec_program.specs.Refusal.{Refusal, NoMemory, refusal_status}
use Rattle.chew_spec_program.specs.Writing.{Sunk}

abbrev statuses : List ℕ
statuses = 0 ∷ (8 ∷ (10 ∷ []))

pub make-listed : (number : ℕ) (sink : Sunk) (status : ℕ) → IsMake number sink status → Contains statuses status
make-listed number sink status is = subst (Contains statuses) (sym is.tells.ends) (by is.given is.tells.failed is.made)
  where
    by : (given : Result (List ℕ) Refusal) (failed : Bool) → (given ≡ Ok (made_of number)) ⊎ (given ≡ Err NoMemory) → Contains statuses (answer_status given failed)
    by (Ok text) true made = (1, omega arith, refl)
    by (Ok text) false made = (0, omega arith, refl)
    by (Err refusal) failed made =
        ⊎_elim (λ text. absurd (cc text))
        (λ none. let same : refusal ≡ NoMemory = cc in subst (λ r. Contains statuses (refusal_status r)) (sym same) (2, omega arith, refl)) made

pub make-sink : (number : ℕ) (sink : Sunk) (status : ℕ) → IsMake number sink status → status ≡ 8 → Rose sink.faults_before sink.faults_now
make-sink number sink status is e = is.tells.writes.rose (by is.given is.tells.failed is.made (sym is.tells.ends ∙ e))
  where
    by : (given : Result (List ℕ) Refusal) (failed : Bool) → (given ≡ Ok (made_of number)) ⊎ (given ≡ Err NoMemory) → answer_status given failed ≡ 8 → failed ≡ true
    by (Ok text) true made e = refl
    by (Ok text) false made e = absurd (omega arith)
    by (Err refusal) failed made e =
        ⊎_elim (λ text. absurd (cc text))
        (λ none. let same : refusal ≡ NoMemory = cc in let ten : refusal_status refusal ≡ 10 = ap refusal_status same in absurd (omega arith)) made
