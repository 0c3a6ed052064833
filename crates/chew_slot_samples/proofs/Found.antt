-- A map that was found is the one that the slots recover to.
use Rattle.std.specs.Prelude.{◌≡◌, ℕ, Bool, true, ◌&&◌, ◌==◌, List, bytes_eq, Result, Ok, Err, IfOk, IsTrue}
use Rattle.std.proofs.Common.{arith, sym, ◌∙◌, subst}
use Rattle.std.proofs.lemmas.Bool.{and_parts}
use Rattle.std.proofs.lemmas.Bool.Decides.{nat_tests}
use Rattle.std.proofs.lemmas.Slice.Eq.{bytes_eq-Decides}
use Rattle.chew_spec_syllable.specs.Row.{Row}
use Rattle.chew_spec_image.specs.Image.{image}
use Rattle.chew_spec_slots.specs.Recovery.{Recovered, recovered}
use Rattle.chew_slot_samples.specs.Answers.{IsOf}
use Rattle.chew_slot_samples.specs.Known.{learnt_image, learnt_life}
use Rattle.chew_slot_samples.specs.declared.maps.Learnt.{Learnt}

same-number : (n m : ℕ) → (n == m) ≡ true → n ≡ m
same-number n m e = grind (arith, nat_tests)

pub found-is-recovered : {E : Type 0} (learnt : Learnt) (life : ℕ) (rows : List Row) (zero one zero′ one′ : List ℕ) (answer : Result Bool E) → zero ≡ zero′ → one ≡ one′
    → recovered zero one ≡ Recovered (record { life = life; rows = rows })
    → IfOk answer (λ is. is ≡ ((life == learnt_life learnt) && bytes_eq (image rows) (learnt_image learnt)))
    → IfOk answer (λ recovers. IsTrue recovers → IsOf learnt (recovered zero′ one′))
found-is-recovered learnt life rows zero one zero′ one′ (Ok is) same same′ found value = λ yes.
    let both = and_parts (life == learnt_life learnt) (bytes_eq (image rows) (learnt_image learnt)) (sym value ∙ yes) in
    let now = subst (λ z. recovered z one′ ≡ Recovered (record { life = life; rows = rows })) same (subst (λ o. recovered zero o ≡ Recovered (record { life = life; rows = rows })) same′ found) in
    subst (λ r. IsOf learnt r) (sym now) (same-number life (learnt_life learnt) both.0, (bytes_eq-Decides (image rows) (learnt_image learnt)).0 both.1)
found-is-recovered learnt life rows zero one zero′ one′ (Err e) same same′ found value = tt
