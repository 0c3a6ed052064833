-- What a snapshot of layers that stand for a map is merged into.
use Rattle.std.proofs.Common.{◌≡◌, ℕ, List, take, ap, ap₂, ◌∙◌, Result, Ok, Err, IfOk, Some}
use Rattle.chew_spec_syllable.specs.Row.{Row}
use Rattle.chew_spec_dictionary.specs.History.{after, start_of}
use Rattle.chew_spec_layers.specs.Layers.{Layers}
use Rattle.chew_spec_layers.specs.Mark.{Marked}
use Rattle.chew_spec_layers.specs.Overlay.{overlay}
use Rattle.chew_spec_layers.specs.Standing.{StandForMap}
use Rattle.chew_spec_layers.proofs.Standings.{frozen_held}

-- the map after the entries up to the number of what waits
pub map_then : {E : Type 0} (merged : Result (List Row) E) (rows base : List Row) (layer marks : List Marked) (number life : ℕ) → rows ≡ base → layer ≡ marks → IfOk merged (λ map. map ≡ overlay rows layer)
    → IfOk merged (λ map. (layers : Layers) → StandForMap layers → base ≡ layers.base → layers.frozen ≡ Some (record { marks = marks; number = number; life = life })
    → map ≡ (after (start_of layers.start) (take number layers.journal)).dictionary.pairs)
map_then (Ok map) rows base layer marks number life r l same =
    λ layers stand at frozen. same ∙ ap₂ overlay (r ∙ at) l ∙ frozen_held layers stand (record { marks = marks; number = number; life = life }) frozen
map_then (Err e) rows base layer marks number life r l same = tt
