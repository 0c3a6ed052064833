use Rattle.chew_spec_editor.proofs.Bells.{after-plain, after-window, commit-bell, no-bell}
use Rattle.chew_spec_editor.proofs.laws.keys.bells_change_nothing.Goals as goal

pub returns : goal.returns
returns c = record { plain = after-plain; window = after-window; commit = commit-bell; asked = no-bell }
