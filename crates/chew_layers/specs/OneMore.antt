-- Layers with one call of a user more, and a learn or a hide that changes its pair.
use Rattle.std.specs.Prelude.{◌≡◌, ◌≤◌, ◌++◌, ℕ, List, [], ◌∷◌, length}
use Rattle.chew_spec_dictionary.specs.Call.{Learn, Hide}
use Rattle.chew_spec_dictionary.specs.Dictionary.{hid, hide, learn, learned}
use Rattle.chew_spec_dictionary.specs.History.{Entry}
use Rattle.chew_spec_layers.specs.Layers.{Layers, dictionary_in, map_in}
use Rattle.chew_spec_layers.specs.Standing.{StandForMap}

-- the journal has one entry more, what lies below the fresh marks is as it was, and they go on to stand for the plain map
pub record IsOneMore (before now : Layers) (e : Entry) : Type 0 where
  pub journal : now.journal ≡ before.journal ++ e ∷ []
  pub start : now.start ≡ before.start
  pub base : now.base ≡ before.base
  pub frozen : now.frozen ≡ before.frozen
  pub installed : now.installed ≡ before.installed
  pub stands : StandForMap now
  pub few : length (map_in now) ≤ 200_000

-- the entry learns the pair, which gets this frequency
pub record IsLearn (layers : Layers) (e : Entry) (key phrase : List ℕ) (freq : ℕ) : Type 0 where
  pub orig : ℕ
  pub peak : ℕ
  pub call : e.call ≡ Learn key phrase orig peak
  pub outcome : learn (dictionary_in layers) key phrase orig peak ≡ learned (dictionary_in layers) key phrase freq

-- the entry hides the pair, which gets this frequency
pub record IsHide (layers : Layers) (e : Entry) (key phrase : List ℕ) (freq : ℕ) : Type 0 where
  pub call : e.call ≡ Hide key phrase
  pub outcome : hide (dictionary_in layers) key phrase ≡ hid (dictionary_in layers) key phrase freq
