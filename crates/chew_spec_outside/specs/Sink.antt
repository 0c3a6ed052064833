-- What a sink took, where it tells it.
use Rattle.std.specs.Prelude.{◌≡◌, ℕ, ◌<◌, ◌≤◌, List, ◌++◌, length, take, Option}
use Rattle.std.specs.Option.{option_map}

-- what a sink has taken after a text more
abbrev pub appended : Option (List ℕ) → List ℕ → Option (List ℕ)
appended before text = option_map (λ had. had ++ text) before

-- a write takes the first n bytes of a piece, and some of one that isn't empty
pub record Takes (before after : Option (List ℕ)) (piece : List ℕ) (n : ℕ) : Type 0 where
  pub fits : n ≤ length piece
  pub some : 0 < length piece → 0 < n
  pub taken : after ≡ appended before (take n piece)
