use Rattle.chew_spec_editor.proofs.Committing.{enter-commits, enter-empties, enter-learns, enter-without_learning}
use Rattle.chew_spec_editor.proofs.laws.commits.enter_commits_what_was_shown.Goals as goal

pub returns : goal.returns
returns c = record { commit = enter-commits; buffer = enter-empties; learns = enter-learns; off = enter-without_learning }
