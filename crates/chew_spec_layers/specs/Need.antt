-- What a dictionary in layers needs, so that its base has all that it holds. This project's own.
use Rattle.std.specs.Prelude.{List, [], ◌∷◌, Option, Some, None}
use Rattle.chew_spec_layers.specs.Layers as layers
use Rattle.chew_spec_layers.specs.Layers.{Layers}
use Rattle.chew_spec_layers.specs.Mark.{Marked}

-- to have what waits installed, to have the fresh marks frozen first, or nothing
pub data Need : Type 0 where
  Waiting : Need
  Fresh : Need
  Nothing : Need

-- where nothing waits: whether there are fresh marks
abbrev pub need_of_fresh : List Marked → Need
need_of_fresh [] = Nothing
need_of_fresh (first ∷ rest) = Fresh

-- what waits comes first
abbrev pub need_by : Option layers.Waiting → List Marked → Need
need_by None fresh = need_of_fresh fresh
need_by (Some waiting) fresh = Waiting

-- what the layers need
abbrev pub need_of : Layers → Need
need_of layers = need_by layers.frozen layers.fresh
