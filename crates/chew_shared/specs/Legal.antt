-- Layers whose journal is legal.
use Rattle.std.specs.Prelude.{◌≡◌, true}
use Rattle.chew_spec_dictionary.specs.History.{is_legal, start_of}
use Rattle.chew_spec_layers.specs.Layers.{Layers}
use Rattle.chew_spec_layers.specs.Standing.{StandForMap}

-- they stand for the plain map, and only the number 0 freezes and installs, and nothing else
pub record AreLegal (layers : Layers) : Type 0 where
  pub stand : StandForMap layers
  pub legal : is_legal (start_of layers.start) layers.journal ≡ true
