-- No phrase is below the least one.
use Rattle.std.proofs.Common.{◌≡◌, ℕ, ◌+◌, ◌/◌, ◌%◌, ◌<◌, ◌≤◌, true, cond, ltb, List, [], ◌∷◌, ◌++◌, length, refl, ap, sym, ◌∙◌, subst, Ordering, Less, Equal, Greater, nat_cmp, arith}
use lib.Utf8.{encode, encodes}
use Rattle.std.specs.List.{list_all}
use Rattle.std.specs.Ordering.{is_le, ordering_then}
use Rattle.std.specs.Cmp.Lexicographic.{slice_cmp}
use Rattle.std.specs.Str.{chars, is_utf8}
use Rattle.std.proofs.lemmas.Bool.{and_parts, cond_both, leb-true, ltb-true}
use Rattle.std.proofs.lemmas.Cmp.{ranked}
use Rattle.std.proofs.lemmas.Map.Lookups.{exact_unsigned}
use Rattle.std.proofs.lemmas.Str.{IsUtf8-from_is_utf8, encodes-chars}
use Rattle.chew_spec_syllable.specs.Phrase.{is_allowed, is_phrase}
use Rattle.chew_buffer.specs.Order.{least_phrase}

-- a list isn't above another where its first number isn't, and where they tie the rest isn't
not_above : (m n : ℕ) (ms ns : List ℕ) → m ≤ n → (m ≡ n → is_le (slice_cmp nat_cmp ms ns) ≡ true) → is_le (slice_cmp nat_cmp (m ∷ ms) (n ∷ ns)) ≡ true
not_above m n ms ns l e = by (nat_cmp m n) refl
  where
    by : (o : Ordering) → o ≡ nat_cmp m n → is_le (ordering_then (nat_cmp m n) (slice_cmp nat_cmp ms ns)) ≡ true
    by Less t = ap (λ (o : Ordering). is_le (ordering_then o (slice_cmp nat_cmp ms ns))) (sym t)
    by Equal t = ap (λ (o : Ordering). is_le (ordering_then o (slice_cmp nat_cmp ms ns))) (sym t) ∙ e (exact_unsigned m n (sym t))
    by Greater t = let above : n < m = ranked m n Greater t in absurd (omega arith)

-- no bytes are below any
nothing_first : (ns : List ℕ) → is_le (slice_cmp nat_cmp [] ns) ≡ true
nothing_first [] = refl
nothing_first (n ∷ ns) = refl

-- the least phrase isn't above a text that begins with a character that may stand in one
least_char : (c : ℕ) (rest : List ℕ) → 0xA1 ≤ c → is_le (slice_cmp nat_cmp least_phrase (encode c ++ rest)) ≡ true
unfolding encode
least_char c rest h =
    let last = (128 + c % 64) ∷ [] in
    let last_two = (128 + c / 64 % 64) ∷ last in
    let last_three = (128 + c / 4096 % 64) ∷ last_two in
    let two = (192 + c / 64) ∷ last in
    let three = (224 + c / 4096) ∷ last_two in
    let four = (240 + c / 262144) ∷ last_three in
    let Is : List ℕ → Type 0 = λ bytes. is_le (slice_cmp nat_cmp least_phrase (bytes ++ rest)) ≡ true in
    let second : 192 + c / 64 ≡ 0xC2 → is_le (slice_cmp nat_cmp (0xA1 ∷ []) (last ++ rest)) ≡ true = λ e. not_above 0xA1 (128 + c % 64) [] rest (omega arith) (λ _. nothing_first rest) in
    cond_both (ltb c 128) (c ∷ []) (cond (ltb c 2048) two (cond (ltb c 65536) three four)) Is
    (λ t. let low : c < 128 = ltb-true _ _ t in absurd (omega arith))
    (λ _. cond_both (ltb c 2048) two (cond (ltb c 65536) three four) Is
    (λ _. not_above 0xC2 (192 + c / 64) (0xA1 ∷ []) (last ++ rest) (omega arith) (λ e. second (sym e)))
    (λ _. cond_both (ltb c 65536) three four Is
    (λ _. not_above 0xC2 (224 + c / 4096) (0xA1 ∷ []) (last_two ++ rest) (omega arith) (λ e. absurd (omega arith)))
    (λ _. not_above 0xC2 (240 + c / 262144) (0xA1 ∷ []) (last_three ++ rest) (omega arith) (λ e. absurd (omega arith)))))

-- nor above the text of characters that may
least_chars : (cs : List ℕ) → list_all is_allowed cs ≡ true → 0 < length (encodes cs) → is_le (slice_cmp nat_cmp least_phrase (encodes cs)) ≡ true
least_chars [] h some = absurd (omega arith)
least_chars (c ∷ cs) h some = least_char c (encodes cs) (leb-true _ _ (and_parts _ _ (and_parts _ _ h).0).0)

-- nor above a phrase
pub least : (phrase : List ℕ) → is_phrase phrase ≡ true → is_le (slice_cmp nat_cmp least_phrase phrase) ≡ true
unfolding is_phrase
least phrase h =
    let parts = and_parts _ _ h in
    let begins = and_parts _ _ parts.1 in
    let allowed = and_parts _ _ begins.1 in
    let same = encodes-chars phrase (IsUtf8-from_is_utf8 phrase begins.0) in
    let some : 0 < length phrase = ltb-true _ _ parts.0 in
    ap (λ (text : List ℕ). is_le (slice_cmp nat_cmp least_phrase text)) (sym same)
    ∙ least_chars (chars phrase) allowed.0 (subst (λ (text : List ℕ). 0 < length text) (sym same) some)

-- and it is one
pub least_is_phrase : is_phrase least_phrase ≡ true
unfolding is_phrase is_utf8 chars encode
least_is_phrase = refl
