-- Sights of a history.
use Rattle.std.proofs.Common.{◌≡◌, ◌≢◌, ℕ, zero, suc, ◌<◌, ◌≤◌, Bool, true, false, List, [], ◌∷◌, ◌++◌, length, nat_lt, if◌then◌else◌, All, Contains, refl, sym, ap, ◌∙◌, subst, ⊎_elim, append_assoc, append-nil, arith}
use Rattle.std.proofs.lemmas.List.Elements.{Contains-append_cases}
use Rattle.std.proofs.lemmas.Bool.Decides.{nat_tests}
use Rattle.chew_spec_dictionary.specs.History.{Entry, own}
use Rattle.chew_spec_cell.specs.Sight.{HasSeen}
use Rattle.chew_spec_cell.proofs.Fronts.{between}
use Rattle.chew_spec_cell.proofs.Sights.{none-first, none-last, none-both, none-other}
use Rattle.chew_cell.specs.View.{Sight, sight_of, both}
use Rattle.chew_cell.specs.Rule.{IsSightOf}

-- who has seen all of a history
pub sight-whole : (history : List Entry) (ns : List ℕ) → IsSightOf history (sight_of history ns)
sight-whole history ns = record { later = []; joined = sym (append-nil history); none = λ who c. refl }

-- a sight without its numbers
pub sight-bare : (history : List Entry) (sight : Sight) → IsSightOf history sight → IsSightOf history (sight_of sight.seen [])
sight-bare history sight s = record { later = s.later; joined = s.joined; none = λ who c. absurd (let low = c.1 in omega arith) }

-- of a list that is seen of a history
pub sight-over : (between history : List Entry) (sight : Sight) (ns : List ℕ) → IsSightOf between sight → IsSightOf history (sight_of between ns)
    → ((who : ℕ) → Contains sight.numbers who → Contains ns who) → IsSightOf history sight
sight-over between history sight ns s t among = record {
  later = s.later ++ t.later;
  joined = t.joined ∙ ap (λ (l : List Entry). l ++ t.later) s.joined ∙ append_assoc sight.seen s.later t.later;
  none = λ who c. none-both s.later t.later who (s.none who c) (t.none who (among who c));
}

-- an entry of another is added
pub sight-others : (history : List Entry) (sight : Sight) (e : Entry) → IsSightOf history sight → ((who : ℕ) → Contains sight.numbers who → e.who ≢ who) → IsSightOf (history ++ e ∷ []) sight
sight-others history sight e s other = record {
  later = s.later ++ e ∷ [];
  joined = ap (λ (l : List Entry). l ++ e ∷ []) s.joined ∙ append_assoc sight.seen s.later (e ∷ []);
  none = λ who c. none-both s.later (e ∷ []) who (s.none who c) (none-other e who (other who c));
}

-- of two sights of one history the longer list has the shorter sight
pub sight-one : (history : List Entry) (sight other : Sight) → IsSightOf history sight → IsSightOf history other → length sight.seen ≤ length other.seen → IsSightOf other.seen sight
sight-one history sight other s t short =
    let b = between sight.seen s.later other.seen t.later (sym s.joined ∙ t.joined) short in record {
      later = b.0;
      joined = b.1;
      none = λ who c. none-first b.0 t.later who (ap (λ (l : List Entry). own l who) (sym b.2) ∙ s.none who c);
    }

-- what is later than the longer of two sights is of no number of the shorter
later-none : (history : List Entry) (sight other : Sight) (s : IsSightOf history sight) (t : IsSightOf history other) → length sight.seen ≤ length other.seen
    → (who : ℕ) → Contains sight.numbers who → own t.later who ≡ []
later-none history sight other s t short who c =
    let b = between sight.seen s.later other.seen t.later (sym s.joined ∙ t.joined) short in
    none-last b.0 t.later who (ap (λ (l : List Entry). own l who) (sym b.2) ∙ s.none who c)

longer-sight : (history : List Entry) (one other : Sight) → IsSightOf history one → IsSightOf history other → (b : Bool) → nat_lt (length one.seen) (length other.seen) ≡ b
    → IsSightOf history (sight_of (if b then other.seen else one.seen) (one.numbers ++ other.numbers))
longer-sight history one other s t true is = record {
  later = t.later;
  joined = t.joined;
  none = λ who c. ⊎_elim (later-none history one other s t (grind (arith, nat_tests)) who) (t.none who) (Contains-append_cases one.numbers other.numbers who c);
}
longer-sight history one other s t false is = record {
  later = s.later;
  joined = s.joined;
  none = λ who c. ⊎_elim (s.none who) (later-none history other one t s (grind (arith, nat_tests)) who) (Contains-append_cases one.numbers other.numbers who c);
}

pub sight-both : (history : List Entry) (one other : Sight) → IsSightOf history one → IsSightOf history other → IsSightOf history (both one other)
sight-both history one other s t = longer-sight history one other s t (nat_lt (length one.seen) (length other.seen)) refl

-- a number that no entry of a history has
none-known : (made : ℕ) (history : List Entry) → All (λ (e : Entry). e.who < made) history → own history made ≡ []
none-known made [] known = refl
none-known made (e ∷ history) known =
    none-both (e ∷ []) history made
    (none-other e made (λ same. let low = known 0 e (omega arith) in omega arith))
    (none-known made history (λ k d low. known (suc k) d (omega arith)))

-- the next number has seen what anybody has
pub sight-new : (made : ℕ) (history seen : List Entry) (ns : List ℕ) → All (λ (e : Entry). e.who < made) history → IsSightOf history (sight_of seen ns) → IsSightOf history (sight_of seen (made ∷ []))
sight-new made history seen ns known s = record {
  later = s.later;
  joined = s.joined;
  none = λ who c. subst (λ (n : ℕ). own s.later n ≡ []) (sym (only who c)) (none-last seen s.later made (ap (λ (l : List Entry). own l made) (sym s.joined) ∙ none-known made history known));
}
  where
    only : (who : ℕ) → Contains (made ∷ []) who → who ≡ made
    only who (zero, low, is) = sym is
    only who (suc k, low, is) = absurd (omega arith)

-- a sight of a number is what that number has seen
pub seen-by : (history : List Entry) (sight : Sight) (who : ℕ) → IsSightOf history sight → Contains sight.numbers who → HasSeen who sight.seen history
seen-by history sight who s c = record { later = s.later; joined = s.joined; none = s.none who c }
