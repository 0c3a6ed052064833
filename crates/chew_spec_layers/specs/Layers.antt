-- The user's dictionary in three layers: a base, marks that wait for a new base, and fresh marks; and what each
-- call makes of them. This project's own.
use Rattle.std.specs.Prelude.{ℕ, List, [], ◌∷◌, ◌++◌, length, is_some, Option, Some, None, if◌then◌else◌}
use Rattle.std.specs.Option.{option_map_or}
use Rattle.chew_spec_syllable.specs.Row.{Row}
use Rattle.chew_spec_dictionary.specs.Call.{Freeze, Install}
use Rattle.chew_spec_dictionary.specs.Dictionary.{Dictionary}
use Rattle.chew_spec_dictionary.specs.History.{Entry}
use Rattle.chew_spec_layers.specs.Mark.{Marked, put_mark}
use Rattle.chew_spec_layers.specs.Overlay.{overlay}

-- marks that wait for a new base, the number of entries before they were frozen, and the life then
pub record Waiting : Type 0 where
  pub marks : List Marked
  pub number : ℕ
  pub life : ℕ

-- three layers, and the journal of all calls since the start; installed is the number of entries that the base has
pub record Layers : Type 0 where
  pub start : Dictionary
  pub base : List Row
  pub frozen : Option Waiting
  pub fresh : List Marked
  pub life : ℕ
  pub installed : ℕ
  pub journal : List Entry

-- new layers over a base
abbrev pub layers_of : Dictionary → Layers
layers_of start = record { start = start; base = start.pairs; frozen = None; fresh = []; life = start.life; installed = 0; journal = [] }

-- the marks that wait, or none
abbrev pub frozen_marks : Option Waiting → List Marked
frozen_marks frozen = option_map_or (λ waiting. waiting.marks) frozen []

-- the map that the layers hold
abbrev pub map_in : Layers → List Row
map_in layers = overlay (overlay layers.base (frozen_marks layers.frozen)) layers.fresh

-- the dictionary that the layers hold
abbrev pub dictionary_in : Layers → Dictionary
dictionary_in layers = record { pairs = map_in layers; life = layers.life; cap = layers.start.cap }

-- one entry more
abbrev pub noted : Layers → Entry → Layers
noted layers e = record layers { journal = layers.journal ++ e ∷ [] }

-- one entry more, which gave a pair this mark and left this life
abbrev pub marked_by : Layers → Entry → Marked → ℕ → Layers
marked_by layers e marked life = record layers { fresh = put_mark marked layers.fresh; life = life; journal = layers.journal ++ e ∷ [] }

-- the fresh marks wait from now on
abbrev pub newly_frozen : Layers → ℕ → Layers
newly_frozen layers who = record layers {
  frozen = Some (record { marks = layers.fresh; number = length layers.journal; life = layers.life });
  fresh = [];
  journal = layers.journal ++ record { who = who; call = Freeze } ∷ [];
}

-- a freeze: where marks wait already, they go on waiting
abbrev pub frozen_by : Layers → ℕ → Layers
frozen_by layers who = if is_some layers.frozen then noted layers (record { who = who; call = Freeze }) else newly_frozen layers who

-- a base that has what waits, in place of the base and of what waits
abbrev pub installed_by : Layers → ℕ → Waiting → List Row → Layers
installed_by layers who waiting rows = record layers {
  base = rows;
  frozen = None;
  installed = waiting.number;
  journal = layers.journal ++ record { who = who; call = Install waiting.number } ∷ [];
}
