use Rattle.chew_spec_editor.proofs.Toggled.{press-tab_key, tab-twice}
use Rattle.chew_spec_editor.proofs.laws.keys.tabs_set_and_clear.Goals as goal

pub returns : goal.returns
returns c = record { key = press-tab_key; twice = tab-twice }
