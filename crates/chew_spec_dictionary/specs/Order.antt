-- Lists put in order, each element at its place among the others.
use Rattle.std.specs.Prelude.{List, [], ◌∷◌, if◌then◌else◌}
use Rattle.std.specs.declared.cmp.Ordering.{Ordering}
use Rattle.std.specs.Ordering.{is_lt}

-- x before the first element that isn't below it
abbrev pub put : {X : Type 0} → (X → X → Ordering) → X → List X → List X
put cmp x [] = x ∷ []
put cmp x (y ∷ ys) = if is_lt (cmp y x) then y ∷ put cmp x ys else x ∷ (y ∷ ys)

-- the list in order
abbrev pub in_order : {X : Type 0} → (X → X → Ordering) → List X → List X
in_order cmp [] = []
in_order cmp (x ∷ xs) = put cmp x (in_order cmp xs)
