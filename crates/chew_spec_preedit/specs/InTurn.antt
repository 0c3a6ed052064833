-- Lists whose elements stand in an order.
use Rattle.std.specs.Prelude.{Bool, true, ◌&&◌, List, [], ◌∷◌}
use Rattle.std.specs.List.{list_all}

-- the test passes for each element with each that stands behind it
abbrev pub is_in_turn : {X : Type 0} → (X → X → Bool) → List X → Bool
is_in_turn test [] = true
is_in_turn test (x ∷ xs) = list_all (test x) xs && is_in_turn test xs
