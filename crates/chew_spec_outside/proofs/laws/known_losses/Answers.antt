-- By the lengths of what is left.
use Rattle.std.specs.Prelude.{◌≡◌, ℕ, List, [], ◌∷◌, length, drop, Some}
use Rattle.std.specs.Option.{unwrap_or}
use Rattle.std.proofs.Common.{arith, ap, subst}
use Rattle.std.proofs.lemmas.List.{length-drop}
use Rattle.chew_spec_outside.specs.Source.{Loses}
use Rattle.chew_spec_outside.proofs.laws.known_losses.Goals as goal

-- how many bytes are left tells how many were lost
lost : (before after : List ℕ) (most : ℕ) (h : Loses (Some before) (Some after) most) → length after ≡ length (drop h.count before)
lost before after most h = ap (λ left. length (unwrap_or left [])) h.rest

pub returns-clause-three : goal.returns-clause-three
returns-clause-three c = λ h. absurd (omega (arith, h.within, lost (1 ∷ 2 ∷ 3 ∷ []) [] 2 h, length-drop {A = ℕ} h.count (1 ∷ 2 ∷ 3 ∷ [])))

pub returns-clause-other_bytes : goal.returns-clause-other_bytes
returns-clause-other_bytes c = λ h.
    let two : h.count ≡ 2 = omega (arith, h.within, lost (1 ∷ 2 ∷ 3 ∷ []) (2 ∷ []) 2 h, length-drop {A = ℕ} h.count (1 ∷ 2 ∷ 3 ∷ [])) in
    let rest : Some (2 ∷ []) ≡ Some (drop 2 (1 ∷ 2 ∷ 3 ∷ [])) = subst (λ n. Some (2 ∷ []) ≡ Some (drop n (1 ∷ 2 ∷ 3 ∷ []))) two h.rest in
    cc
