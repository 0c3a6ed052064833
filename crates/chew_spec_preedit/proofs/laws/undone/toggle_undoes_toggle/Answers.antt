-- What is set is cleared, and what is cleared is set.
use Rattle.chew_spec_preedit.proofs.Toggled.{toggled-twice}
use Rattle.chew_spec_preedit.proofs.laws.undone.toggle_undoes_toggle.Goals as goal

pub returns : goal.returns
returns c = record { breaks = toggled-twice }
