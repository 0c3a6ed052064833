-- Texts of characters.
use Rattle.std.specs.Prelude.{◌≡◌, ℕ, ◌+◌, ◌*◌, ◌<◌, ◌≤◌, List, [], ◌∷◌, ◌++◌, get_or, length, take}
use Rattle.std.proofs.Common.{ap, arith, length-append, ◌∙◌}
use Rattle.std.proofs.Math.Utf8.{encode, encodes}
use Rattle.std.proofs.lemmas.List.{append-nil, take_more}
use Rattle.std.proofs.lemmas.Str.{encodes-append, length-encode, len_utf8_bounds}

-- a character takes at most four bytes
pub length-encodes-le : (cs : List ℕ) → length (encodes cs) ≤ 4 * length cs
length-encodes-le [] = omega arith
length-encodes-le (c ∷ cs) = omega (arith, length-append (encode c) (encodes cs), length-encode c, len_utf8_bounds c, length-encodes-le cs)

-- one character more
pub encoded_more : (cs : List ℕ) (i d : ℕ) → i < length cs → encodes (take (i + 1) cs) ≡ encodes (take i cs) ++ encode (get_or cs i d)
encoded_more cs i d h =
    ap encodes (take_more cs i d h)
    ∙ encodes-append (take i cs) (get_or cs i d ∷ [])
    ∙ ap (λ xs. encodes (take i cs) ++ xs) (append-nil (encode (get_or cs i d)))
