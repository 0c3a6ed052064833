-- Where a phrase ends.
use Rattle.std.proofs.Common.{◌≡◌, ℕ, zero, suc, ◌<◌, ◌≤◌, true, false, ltb, List, length, take, refl, sym, ap, ◌∙◌, inl, inr, arith}
use Rattle.std.specs.Str.{is_utf8, chars}
use Rattle.std.proofs.Math.Seq.{take-length}
use Rattle.std.proofs.lemmas.Bool.{and_parts, and_from, lt-ltb, ltb-true, both_ways, cases_eq, cond_both}
use Rattle.chew_spec_syllable.specs.Phrase.{begins_phrase, front_up_to, phrase_end, is_phrase}

-- the front has at most this many bytes
front-le : (text : List ℕ) (n : ℕ) → front_up_to text n ≤ n
front-le text zero = omega arith
front-le text (suc n) =
    cond_both (begins_phrase (take (suc n) text)) (suc n) (front_up_to text n) (λ k. k ≤ suc n)
    (λ e. omega arith) (λ e. let h = front-le text n in omega arith)

-- where one number begins a phrase and the other doesn't, they differ
below_top : (text : List ℕ) (n k : ℕ) → k ≤ suc n → begins_phrase (take k text) ≡ true → begins_phrase (take (suc n) text) ≡ false → k ≤ n
below_top text n k h e f = elim (cases_eq k (suc n)) [
  | inl same ↦ absurd (both_ways _ f (ap (λ j. begins_phrase (take j text)) (sym same) ∙ e))
  | inr differ ↦ omega arith
]

-- each front that begins a phrase is at most as long
front-longest : (text : List ℕ) (n k : ℕ) → k ≤ n → begins_phrase (take k text) ≡ true → k ≤ front_up_to text n
front-longest text zero k h e = h
front-longest text (suc n) k h e =
    cond_both (begins_phrase (take (suc n) text)) (suc n) (front_up_to text n) (λ m. k ≤ m)
    (λ f. h) (λ f. front-longest text n k (below_top text n k h e f) e)

-- the front begins a phrase
front-begins : (text : List ℕ) (n : ℕ) → begins_phrase (take (front_up_to text n) text) ≡ true
unfolding is_utf8 chars
front-begins text zero = refl
front-begins text (suc n) =
    cond_both (begins_phrase (take (suc n) text)) (suc n) (front_up_to text n) (λ m. begins_phrase (take m text) ≡ true)
    (λ e. e) (λ e. front-begins text n)

-- a phrase ends within its text
pub end_within : (text : List ℕ) → phrase_end text ≤ length text
unfolding phrase_end
end_within text = front-le text (length text)

-- the front before the end begins a phrase
pub end_begins : (text : List ℕ) → begins_phrase (take (phrase_end text) text) ≡ true
unfolding phrase_end
end_begins text = front-begins text (length text)

-- no longer front does
pub end_longest : (text : List ℕ) (n : ℕ) → n ≤ length text → begins_phrase (take n text) ≡ true → n ≤ phrase_end text
unfolding phrase_end
end_longest text n = front-longest text (length text) n

-- a phrase ends at its text's end
pub phrase_whole : (text : List ℕ) → is_phrase text ≡ true → phrase_end text ≡ length text
unfolding is_phrase
phrase_whole text h =
    let b : begins_phrase (take (length text) text) ≡ true = ap begins_phrase (take-length text) ∙ (and_parts (ltb 0 (length text)) (begins_phrase text) h).1 in
    let low : length text ≤ phrase_end text = end_longest text (length text) (omega arith) b in
    let high = end_within text in
    omega arith

-- a phrase isn't empty
pub phrase_nonempty : (text : List ℕ) → is_phrase text ≡ true → 0 < length text
unfolding is_phrase
phrase_nonempty text h = ltb-true _ _ (and_parts _ _ h).0

-- and a text that isn't empty and ends where its phrase ends is one
pub whole_phrase : (text : List ℕ) → phrase_end text ≡ length text → 0 < length text → is_phrase text ≡ true
unfolding is_phrase
whole_phrase text e h =
    and_from _ _ (lt-ltb _ _ h)
    (sym (ap begins_phrase (take-length text)) ∙ (ap (λ n. begins_phrase (take n text)) (sym e) ∙ end_begins text))
