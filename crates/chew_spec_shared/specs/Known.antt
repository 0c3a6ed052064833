-- A shared dictionary and its calls, for the known values.
use Rattle.std.specs.Prelude.{ℕ, List, [], ◌∷◌}
use Rattle.chew_spec_dictionary.specs.Call.{Look, Freeze, Forget, Install}
use Rattle.chew_spec_dictionary.specs.Dictionary.{Dictionary}
use Rattle.chew_spec_dictionary.specs.History.{Entry}
use Rattle.chew_spec_dictionary.specs.Known.{by, ce_shi_key, learn_test, test}
use Rattle.chew_spec_layers.specs.Layers.{Waiting}
use Rattle.chew_spec_layers.specs.Mark.{Live}
use Rattle.chew_spec_cell.specs.Pass.{Cell, Pass}

-- a dictionary without a pair
abbrev pub nothing : Dictionary
nothing = record { pairs = []; life = 0; cap = 65_536 }

-- a pass of this number that has seen these entries, of a cell that began with it
abbrev pub pass_with : Cell → ℕ → List Entry → Pass
pass_with cell who seen = record { cell = record cell { start = nothing }; who = who; seen = seen }

-- 1 learns 測試 and 2 looks it up; then the keeper freezes; then 1 forgets it; and then the keeper installs
abbrev pub up_to_look : List Entry
up_to_look = by 1 learn_test ∷ by 2 (Look ce_shi_key) ∷ []

abbrev pub up_to_freeze : List Entry
up_to_freeze = by 1 learn_test ∷ by 2 (Look ce_shi_key) ∷ by 0 Freeze ∷ []

abbrev pub up_to_forget : List Entry
up_to_forget = by 1 learn_test ∷ by 2 (Look ce_shi_key) ∷ by 0 Freeze ∷ by 1 (Forget ce_shi_key test) ∷ []

abbrev pub up_to_install : List Entry
up_to_install = by 1 learn_test ∷ by 2 (Look ce_shi_key) ∷ by 0 Freeze ∷ by 1 (Forget ce_shi_key test) ∷ by 0 (Install 2) ∷ []

-- what waits then: 測試 with its frequency and the time 0
abbrev pub layer_of_test : Waiting
layer_of_test = record { marks = record { key = ce_shi_key; phrase = test; mark = Live 9318 0 } ∷ []; number = 2; life = 1 }
