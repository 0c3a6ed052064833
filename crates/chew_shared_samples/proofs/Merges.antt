-- The merge of a snapshot.
use Rattle.std.proofs.Common.{◌≡◌, ℕ, List, sym, subst}
use Rattle.chew_spec_syllable.specs.Row.{Row}
use Rattle.chew_spec_dictionary.specs.Dictionary.{Dictionary}
use Rattle.chew_spec_dictionary.specs.History.{Entry}
use Rattle.chew_spec_layers.specs.Layers.{Waiting}
use Rattle.chew_spec_layers.specs.Overlay.{overlay}
use Rattle.chew_spec_shared.specs.Snapshot.{IsMerge, IsSnapshot}
use Rattle.chew_spec_shared.proofs.Waiting.{merge-of-snapshot}

-- the rows of the base under the marks that wait may be installed
pub may_be_installed : (start : Dictionary) (seen : List Entry) (base rows : List Row) (layer : Waiting) → IsSnapshot start seen base layer
    → rows ≡ overlay base layer.marks → (number : ℕ) × IsMerge start seen number rows
may_be_installed start seen base rows layer waits is =
    (layer.number, subst (λ (l : List Row). IsMerge start seen layer.number l) (sym is) (merge-of-snapshot start seen base layer waits))
