-- Whether bytes are a phrase of so many characters.
use Rattle.std.proofs.Common.{◌≡◌, ℕ, ◌≤◌, Bool, true, false, ◌&&◌, ◌==◌, ltb, leb, List, [], ◌∷◌, length, refl, sym, ap, ◌∙◌, eqb-true, arith}
use Rattle.std.specs.List.{list_all}
use Rattle.std.specs.Str.{IsUtf8, is_utf8, chars}
use Rattle.std.proofs.lemmas.Bool.{and_parts, false_from_ne_true, lt-ltb, le-leb}
use Rattle.std.proofs.lemmas.Str.{IsUtf8-from_is_utf8, chars-nil, is_utf8-from_IsUtf8}
use Rattle.chew_spec_syllable.specs.Phrase.{begins_phrase, is_allowed, is_phrase}
use Rattle.chew_syllable.proofs.PhraseFront.{phrase_few, phrase_some}

and_true : (x : Bool) → (x && true) ≡ x
and_true true = refl
and_true false = refl

and_false : (x : Bool) → (x && false) ≡ false
and_false true = refl
and_false false = refl

-- a phrase has from 1 to 11 characters
pub no_such : (text : List ℕ) (len : ℕ) → (1 ≤ len → len ≤ 11 → ⊥) → (is_phrase text && (length (chars text) == len)) ≡ false
no_such text len none = false_from_ne_true _
    (λ yes.
    let p = and_parts (is_phrase text) (length (chars text) == len) yes in
    let some = phrase_some text p.0 in
    let few = phrase_few text p.0 in
    let same = eqb-true (length (chars text)) len p.1 in
    none (omega arith) (omega arith))

-- and is UTF-8
pub no_text : (text : List ℕ) (len : ℕ) → (IsUtf8 text → ⊥) → (is_phrase text && (length (chars text) == len)) ≡ false
unfolding is_phrase
no_text text len none = false_from_ne_true _
    (λ yes.
    let p = and_parts (is_phrase text) (length (chars text) == len) yes in
    let q = and_parts (ltb 0 (length text)) (begins_phrase text) p.0 in
    let u = and_parts (is_utf8 text) (list_all is_allowed (chars text) && leb (length (chars text)) 11) q.1 in
    none (IsUtf8-from_is_utf8 text u.0))

some_bytes : (text : List ℕ) → 1 ≤ length (chars text) → 1 ≤ length text
some_bytes [] h = absurd (let e = ap length chars-nil in omega arith)
some_bytes (b ∷ text) h = omega arith

-- of a text it is that all characters are allowed
phrase_is : (text : List ℕ) → IsUtf8 text → 1 ≤ length (chars text) → length (chars text) ≤ 11 → is_phrase text ≡ list_all is_allowed (chars text)
unfolding is_phrase
phrase_is text valid some few =
    ap (λ b. b && begins_phrase text) (lt-ltb 0 (length text) (let l = some_bytes text some in omega arith))
    ∙ (ap (λ b. b && (list_all is_allowed (chars text) && leb (length (chars text)) 11)) (is_utf8-from_IsUtf8 text valid)
    ∙ (ap (λ b. list_all is_allowed (chars text) && b) (le-leb (length (chars text)) 11 few) ∙ and_true (list_all is_allowed (chars text))))

pub of_allowed : (text : List ℕ) (len : ℕ) → IsUtf8 text → 1 ≤ len → len ≤ 11 → (list_all is_allowed (chars text) && (length (chars text) == len)) ≡ (is_phrase text && (length (chars text) == len))
of_allowed text len valid some few = by_test (length (chars text) == len) refl
  where
    by_test : (b : Bool) → (length (chars text) == len) ≡ b → (list_all is_allowed (chars text) && b) ≡ (is_phrase text && b)
    by_test true e = let same = eqb-true (length (chars text)) len e in ap (λ x. x && true) (sym (phrase_is text valid (omega arith) (omega arith)))
    by_test false e = and_false (list_all is_allowed (chars text)) ∙ sym (and_false (is_phrase text))
