-- The dictionary that contexts share: which passes are of it, and what a call makes of what its pass has seen.
use Rattle.std.specs.Prelude.{◌≡◌, List, [], ◌∷◌, ◌++◌}
use Rattle.chew_spec_dictionary.specs.Call.{Call, Reply}
use Rattle.chew_spec_dictionary.specs.History.{Entry, after, answer, start_of}
use Rattle.chew_spec_cell.specs.Pass.{Cell, Pass}
use Rattle.chew_spec_cell.specs.Sight.{HasSeen}

-- the pass is of this dictionary
abbrev pub IsOf : Cell → Pass → Type 0
IsOf shared pass = pass.cell ≡ shared

-- by this call of the pass, which got this reply, these entries are seen: what was seen before, then entries of others, and
-- then the call, which was answered in its place after all these
pub record Asked (pass : Pass) (call : Call) (reply : Reply) (seen : List Entry) : Type 0 where
  pub before : List Entry
  pub others : HasSeen pass.who pass.seen before
  pub made : seen ≡ before ++ record { who = pass.who; call = call } ∷ []
  pub answered : reply ≡ (answer (after (start_of pass.cell.start) before) call).reply
