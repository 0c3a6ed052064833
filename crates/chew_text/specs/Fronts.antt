-- What stands where a text was appended to, maybe not to its end.
use Rattle.std.specs.Prelude.{◌≡◌, ℕ, List, length, take}

-- the text begins with all of this one
abbrev pub IsFront : List ℕ → List ℕ → Type 0
IsFront front text = take (length front) text ≡ front
