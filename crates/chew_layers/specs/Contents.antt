-- The map that three layers hold, and a row by what it says of its pair.
use Rattle.std.specs.Prelude.{ℕ, List}
use Rattle.chew_spec_syllable.specs.Row.{Row}
use Rattle.chew_spec_layers.specs.Overlay.{overlay}
use Rattle.chew_layers.specs.declared.held.Held.{Held}
use Rattle.chew_layers.specs.declared.held.Said.{Said}

-- the rows of the base under the frozen and the fresh marks
abbrev pub rows_held : Held → List Row
rows_held held = overlay (overlay held.base.now held.frozen.now) held.fresh.now

-- the row that is said of a pair
abbrev pub row_said : List ℕ → List ℕ → Said → Row
row_said key phrase said = record { key = key; phrase = phrase; freq = said.freq; time = said.time }
