-- Prefixes of a key, and keys without repetition.
use Rattle.std.specs.Prelude.{ℕ, List, [], ◌∷◌, map, take, bytes_eq, if◌then◌else◌}
use Rattle.std.specs.List.{range_with_len}

-- the prefixes of up to so many codes
abbrev pub prefixes_to : List ℕ → ℕ → List (List ℕ)
prefixes_to key n = map (λ k. take k key) (range_with_len 1 n)

-- the keys that differ from the one before them; before the first stands last
abbrev pub unlike : List ℕ → List (List ℕ) → List (List ℕ)
unlike last [] = []
unlike last (key ∷ keys) = if bytes_eq key last then unlike last keys else key ∷ unlike key keys
