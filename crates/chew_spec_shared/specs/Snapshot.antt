-- What the keeper is given to make a new base of, and which base it may install. This project's own.
use Rattle.std.specs.Prelude.{◌≡◌, ℕ, List, take, is_some, Option, Some}
use Rattle.chew_spec_syllable.specs.Row.{Row}
use Rattle.chew_spec_dictionary.specs.Dictionary.{Dictionary}
use Rattle.chew_spec_dictionary.specs.History.{Entry, after, start_of}
use Rattle.chew_spec_layers.specs.Layers.{Waiting}
use Rattle.chew_spec_layers.specs.Mark.{mark_of}
use Rattle.chew_spec_layers.specs.Overlay.{overlay}
use Rattle.chew_spec_layers.specs.Touches.{touched}

-- the number that waits after these entries, if any, and the number of those that the base has
abbrev pub waiting_after : Dictionary → List Entry → Option ℕ
waiting_after start seen = (after (start_of start) seen).shape.waiting

abbrev pub installed_after : Dictionary → List Entry → ℕ
installed_after start seen = (after (start_of start) seen).shape.installed

-- the dictionary after so many of these entries
abbrev pub dictionary_at : Dictionary → List Entry → ℕ → Dictionary
dictionary_at start seen number = (after (start_of start) (take number seen)).dictionary

-- the layer waits after these entries: the base is the map after the installed entries, the layer has a mark for exactly the
-- pairs touched from there to its number, and over the base it is the map then; its life is the life then
pub record IsSnapshot (start : Dictionary) (seen : List Entry) (rows : List Row) (layer : Waiting) : Type 0 where
  pub waits : waiting_after start seen ≡ Some layer.number
  pub base : rows ≡ (dictionary_at start seen (installed_after start seen)).pairs
  pub pairs : (key phrase : List ℕ) → is_some (mark_of layer.marks key phrase)
      ≡ touched (start_of start) seen (installed_after start seen) layer.number key phrase
  pub map : overlay rows layer.marks ≡ (dictionary_at start seen layer.number).pairs
  pub life : layer.life ≡ (dictionary_at start seen layer.number).life

-- the rows are the merge of the snapshot that waits after these entries and has this number: the map then
pub record IsMerge (start : Dictionary) (seen : List Entry) (number : ℕ) (rows : List Row) : Type 0 where
  pub waits : waiting_after start seen ≡ Some number
  pub map : rows ≡ (dictionary_at start seen number).pairs
