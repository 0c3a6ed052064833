-- The reply to a call.
use Rattle.std.specs.Prelude.{◌≡◌}
use Rattle.chew_spec_dictionary.specs.Call.{Call, Look, Reply}
use Rattle.chew_spec_preedit.specs.PlacedRun.{PlacedRun}
use Rattle.chew_spec_editor.specs.Answers.{IsFound}

-- where the call is a look-up of a run, the reply is what a dictionary finds there
pub record IsFoundBy (call : Call) (reply : Reply) : Type 0 where
  pub found : (run : PlacedRun) → call ≡ Look run.codes → IsFound run reply
