-- Image order by the parts of a pair.
use Rattle.std.proofs.Common.{◌≡◌, ℕ, List, length, refl, ap, sym, ◌∙◌, Ordering, Less, Equal, Greater, nat_cmp}
use Rattle.std.specs.Ordering.{ordering_then}
use Rattle.std.specs.Cmp.Lexicographic.{slice_cmp}
use Rattle.chew_spec_syllable.specs.Row.{pair_cmp}
use Rattle.chew_spec_dictionary.proofs.ImageOrder.{image_parts, then_assoc}
use Rattle.chew_buffer.specs.Order.{key_cmp}

-- image order is that of the keys, then that of the phrases' bytes
pub pair_cmp_parts : (key phrase other_key other_phrase : List ℕ) → pair_cmp key phrase other_key other_phrase ≡ ordering_then (key_cmp key other_key) (slice_cmp nat_cmp phrase other_phrase)
pair_cmp_parts key phrase other_key other_phrase =
    image_parts (record { key = key; phrase = phrase; freq = 0; time = 0 }) (record { key = other_key; phrase = other_phrase; freq = 0; time = 0 })
    ∙ sym (then_assoc (nat_cmp (length key) (length other_key)) (slice_cmp nat_cmp key other_key) (slice_cmp nat_cmp phrase other_phrase))

-- pairs of one key are in the order of their phrases' bytes
pub pairs_of_one_key : (key phrase other_key other_phrase : List ℕ) → Equal ≡ key_cmp key other_key → slice_cmp nat_cmp phrase other_phrase ≡ pair_cmp key phrase other_key other_phrase
pairs_of_one_key key phrase other_key other_phrase e = ap (λ (o : Ordering). ordering_then o (slice_cmp nat_cmp phrase other_phrase)) e ∙ sym (pair_cmp_parts key phrase other_key other_phrase)

-- pairs of two keys are in the order of the keys
pub pairs_of_two_keys : (key phrase other_key other_phrase : List ℕ) (o : Ordering) → o ≡ key_cmp key other_key → (o ≡ Equal → ⊥) → o ≡ pair_cmp key phrase other_key other_phrase
pairs_of_two_keys key phrase other_key other_phrase o e other = by o other ∙ ap (λ (p : Ordering). ordering_then p (slice_cmp nat_cmp phrase other_phrase)) e ∙ sym (pair_cmp_parts key phrase other_key other_phrase)
  where
    by : (p : Ordering) → (p ≡ Equal → ⊥) → p ≡ ordering_then p (slice_cmp nat_cmp phrase other_phrase)
    by Less n = refl
    by Equal n = absurd (n refl)
    by Greater n = refl
