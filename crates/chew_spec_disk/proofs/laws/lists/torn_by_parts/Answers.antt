-- Element by element.
use Rattle.std.specs.Prelude.{◌≡◌, ◌⊎◌, ℕ, ◌+◌, ◌-◌, ◌<◌, ◌≤◌, List, length, take, drop}
use Rattle.std.proofs.Common.{arith, get_or, sym, ap, ◌∙◌, ⊎_elim}
use Rattle.std.proofs.lemmas.List.{get_or-take, get_or-drop}
use Rattle.chew_spec_disk.proofs.laws.lists.torn_by_parts.Goals as goal

behind : (e : ℕ) (list : List ℕ) (k : ℕ) → e ≤ k → get_or list k 0 ≡ get_or (drop e list) (k - e) 0
behind e list k high = ap (λ i. get_or list i 0) (let same : k ≡ e + (k - e) = omega arith in same) ∙ sym (get_or-drop e list (k - e) 0)

same-by-parts : (at n : ℕ) (old new : List ℕ) → take at new ≡ take at old → drop (at + n) (take (length old) new) ≡ drop (at + n) old
    → (k : ℕ) → k < length old → (k < at) ⊎ (at + n ≤ k) → get_or new k 0 ≡ get_or old k 0
same-by-parts at n old new front back k low apart =
    ⊎_elim
    (λ before. sym (get_or-take at new k 0 before) ∙ ap (λ list. get_or list k 0) front ∙ get_or-take at old k 0 before)
    (λ after. sym (get_or-take (length old) new k 0 low)
    ∙ behind (at + n) (take (length old) new) k after
    ∙ ap (λ list. get_or list (k - (at + n)) 0) back
    ∙ sym (behind (at + n) old k after))
    apart

pub returns-clause-parts : goal.returns-clause-parts
returns-clause-parts c = λ at n old new front back short long.
    record { no_shorter = short; no_longer = long; same = same-by-parts at n old new front back }
