-- Words for laws: the pieces of all runs.
use Rattle.std.specs.Prelude.{List, [], ◌∷◌, ◌++◌}
use Rattle.chew_spec_syllable.specs.Row.{Row}
use Rattle.chew_spec_dictionary.specs.Call.{Reply}
use Rattle.chew_spec_phrasing.specs.Usable.{Piece}
use Rattle.chew_spec_preedit.specs.Buffer.{Buffer}
use Rattle.chew_spec_preedit.specs.PlacedRun.{PlacedRun}
use Rattle.chew_spec_editor.specs.Finish.{best_of_run, hits_in}

-- the best pieces of each run, run by run
abbrev pub best_of_runs : List Row → Buffer → List PlacedRun → List Reply → List Piece
best_of_runs system buffer (run ∷ runs) (reply ∷ replies) = best_of_run system buffer run (hits_in reply) ++ best_of_runs system buffer runs replies
best_of_runs system buffer _ _ = []
