-- Texts and their characters.
use Rattle.std.proofs.Common.{◌≡◌, ℕ, List, [], ◌∷◌, length, chars, arith}
use Rattle.std.proofs.lemmas.Str.{chars-nil}

-- an empty text has no characters
pub chars_none : (text : List ℕ) → length text ≡ 0 → chars text ≡ []
chars_none [] e = chars-nil
chars_none (b ∷ text) e = absurd (omega arith)
