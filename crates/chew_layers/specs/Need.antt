-- The definition's needs that the code's stand for.
use Rattle.chew_spec_layers.specs.Need as spec
use Rattle.chew_layers.specs.declared.need.Need.{Need}
use Rattle.chew_layers.specs.declared.need.Need.TheVariants.{Waiting, Fresh, Nothing}

abbrev pub meaning_of : Need → spec.Need
meaning_of Waiting = spec.Waiting
meaning_of Fresh = spec.Fresh
meaning_of Nothing = spec.Nothing
