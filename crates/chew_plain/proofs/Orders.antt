-- The orders by which rows and hits are sorted.
use Rattle.std.proofs.Common.{◌≡◌, ℕ, Bool, List, length, refl, ap, sym, ◌∙◌, Ordering, Less, Equal, Greater, is_lt, nat_cmp, Bor}
use Rattle.std.specs.Cmp.{IsTotalOrder, IsStrictWeakOrder}
use Rattle.std.specs.Cmp.Lexicographic.{slice_cmp}
use Rattle.std.specs.Ordering.{ordering_then}
use Rattle.std.specs.Fn.{Called, ComparesAs}
use Rattle.std.specs.List.Sorted.{IsSortedBy, IsStableBy}
use Rattle.std.proofs.lemmas.Fn.{always_returns_same}
use Rattle.std.proofs.lemmas.List.Sorted.{ranks_by}
use denote.Param.Members.{Mut}
use Rattle.chew_spec_syllable.specs.Row.{pair_cmp}
use Rattle.chew_spec_dictionary.specs.Order.{in_order}
use Rattle.chew_spec_dictionary.proofs.ImageOrder.{image_parts, then_assoc}
use Rattle.chew_spec_dictionary.proofs.Sorting.{less, sorted_is_in_order}
use Rattle.chew_plain.specs.Order.{key_cmp}

-- image order is that of the keys, then that of the phrases' bytes
pub pair_cmp_parts : (key phrase other_key other_phrase : List ℕ) → pair_cmp key phrase other_key other_phrase ≡ ordering_then (key_cmp key other_key) (slice_cmp nat_cmp phrase other_phrase)
pair_cmp_parts key phrase other_key other_phrase =
    image_parts (record { key = key; phrase = phrase; freq = 0; time = 0 }) (record { key = other_key; phrase = other_phrase; freq = 0; time = 0 })
    ∙ sym (then_assoc (nat_cmp (length key) (length other_key)) (slice_cmp nat_cmp key other_key) (slice_cmp nat_cmp phrase other_phrase))

-- pairs of one key are in the order of their phrases' bytes
pub pairs_of_one_key : (key phrase other_key other_phrase : List ℕ) → Equal ≡ key_cmp key other_key → slice_cmp nat_cmp phrase other_phrase ≡ pair_cmp key phrase other_key other_phrase
pairs_of_one_key key phrase other_key other_phrase e = ap (λ (o : Ordering). ordering_then o (slice_cmp nat_cmp phrase other_phrase)) e ∙ sym (pair_cmp_parts key phrase other_key other_phrase)

-- pairs of two keys are in the order of the keys
pub pairs_of_two_keys : (key phrase other_key other_phrase : List ℕ) (o : Ordering) → o ≡ key_cmp key other_key → (o ≡ Equal → ⊥) → o ≡ pair_cmp key phrase other_key other_phrase
pairs_of_two_keys key phrase other_key other_phrase o e other = by o other ∙ ap (λ (p : Ordering). ordering_then p (slice_cmp nat_cmp phrase other_phrase)) e ∙ sym (pair_cmp_parts key phrase other_key other_phrase)
  where
    by : (p : Ordering) → (p ≡ Equal → ⊥) → p ≡ ordering_then p (slice_cmp nat_cmp phrase other_phrase)
    by Less n = refl
    by Equal n = absurd (n refl)
    by Greater n = refl

-- what a sort by a total order leaves is the list put in order
pub put_in_order : {F X : Type 0} {g : Mut F (Bor X × (Bor X × Unit {0})) Ordering} {f : F} (cmp : X → X → Ordering) → IsTotalOrder cmp → (xs ys : List X)
    → ((lt : X → X → Bool) → IsStrictWeakOrder lt → ComparesAs g lt f → IsSortedBy lt ys)
    → ((lt : X → X → Bool) → IsStrictWeakOrder lt → ComparesAs g lt f → IsStableBy lt xs ys)
    → ((a : Bor X × (Bor X × Unit {0})) (r : Ordering) (f' : F) → Called g f a r f' → (r ≡ cmp a.0.now a.1.0.now) × (f' ≡ f)) → ys ≡ in_order cmp xs
put_in_order {X = X} {g = g} {f = f} cmp o xs ys up stable h =
    let weak = ranks_by o (λ (x : X). x) in
    let compares = always_returns_same g (λ a r. is_lt r ≡ is_lt (cmp a.0.now a.1.0.now)) f (λ a r f' k. (ap is_lt (h a r f' k).0, (h a r f' k).1)) in
    sorted_is_in_order cmp weak xs ys (up (less cmp) weak compares) (stable (less cmp) weak compares)
