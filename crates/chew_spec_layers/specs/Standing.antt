-- What three layers and a history have to do with each other.
use Rattle.std.specs.Prelude.{◌≡◌, ℕ, ◌+◌, true, List, [], ◌++◌, length, is_some, Option, Some, None, option_map}
use Rattle.chew_spec_dictionary.specs.Dictionary.{is_map}
use Rattle.chew_spec_dictionary.specs.System.{row_of}
use Rattle.chew_spec_dictionary.specs.History.{Entry, Point, start_of, after}
use Rattle.chew_spec_layers.specs.Layers.{Layers, Waiting, frozen_marks}
use Rattle.chew_spec_layers.specs.Mark.{Mark, Marked, is_layer, mark_of, row_of_mark}
use Rattle.chew_spec_layers.specs.Touches.{touches}

-- the marks are those of a stretch of a history: one for each pair that it changed and no other, and each says of its
-- pair what the map says after the stretch
pub record IsLayerOf (p : Point) (stretch : List Entry) (marks : List Marked) : Type 0 where
  pub layer : is_layer marks ≡ true
  pub pairs : (key phrase : List ℕ) → is_some (mark_of marks key phrase) ≡ touches p stretch key phrase
  pub says : (key phrase : List ℕ) (mark : Mark) → mark_of marks key phrase ≡ Some mark
      → row_of (after p stretch).dictionary.pairs key phrase ≡ row_of_mark key phrase mark

-- what waits has the number and the life of this stretch's end; where nothing waits the stretch is empty
abbrev pub WaitsAfter : Point → List Entry → ℕ → Option Waiting → Type 0
WaitsAfter p stretch number None = stretch ≡ []
WaitsAfter p stretch number (Some waiting) = (waiting.number ≡ number) × (waiting.life ≡ (after p stretch).dictionary.life)

-- the layers stand for the plain map: the journal is three stretches, the base is the map after the first, the marks that
-- wait are those of the second, and the fresh marks those of the third
pub record StandForMap (layers : Layers) : Type 0 where
  pub first : List Entry
  pub second : List Entry
  pub third : List Entry
  pub joined : layers.journal ≡ first ++ (second ++ third)
  pub map : is_map layers.start.pairs ≡ true
  pub installed : layers.installed ≡ length first
  pub base : layers.base ≡ (after (start_of layers.start) first).dictionary.pairs
  pub frozen : IsLayerOf (after (start_of layers.start) first) second (frozen_marks layers.frozen)
  pub waits : WaitsAfter (after (start_of layers.start) first) second (length first + length second) layers.frozen
  pub fresh : IsLayerOf (after (after (start_of layers.start) first) second) third layers.fresh
  pub life : layers.life ≡ (after (start_of layers.start) layers.journal).dictionary.life
  pub shape : (after (start_of layers.start) layers.journal).shape
      ≡ record { installed = layers.installed; waiting = option_map (λ waiting. waiting.number) layers.frozen }
