-- A phrase has a character.
use Rattle.std.proofs.Common.{◌≡◌, ℕ, ◌≤◌, ◌<◌, true, List, [], ◌∷◌, length, arith, sym, refl, subst}
use Rattle.std.specs.Prelude.{nat_lt, encode_utf8_all}
use Rattle.std.specs.Str.{IsUtf8, chars, is_utf8}
use Rattle.std.proofs.lemmas.Bool.{and_parts, ltb-true}
use Rattle.std.proofs.lemmas.Str.{IsUtf8-from_is_utf8, encodes-chars}
use Rattle.chew_spec_syllable.specs.Phrase.{begins_phrase, is_phrase}
use Rattle.chew_spec_phrasing.specs.Usable.{phrase_len}

some_of : (text cs : List ℕ) → 0 < length text → encode_utf8_all cs ≡ text → 1 ≤ length cs
some_of text [] l e = absurd (let h : 0 < length {A = ℕ} [] = subst (λ (bs : List ℕ). 0 < length bs) (sym e) l in omega arith)
some_of text (c ∷ cs) l e = omega arith

pub phrase_len-some : (phrase : List ℕ) → is_phrase phrase ≡ true → 1 ≤ phrase_len phrase
unfolding is_phrase
phrase_len-some phrase e =
    let parts = and_parts (nat_lt 0 (length phrase)) (begins_phrase phrase) e in
    let text : IsUtf8 phrase = IsUtf8-from_is_utf8 phrase ((and_parts (is_utf8 phrase) _ parts.1).0) in
    some_of phrase (chars phrase) (ltb-true 0 (length phrase) parts.0) (encodes-chars phrase text)
