use Rattle.chew_spec_editor.proofs.Phrasing.{window-before, window-close, window-down, window-next, window-none, window-pick}
use Rattle.chew_spec_editor.proofs.laws.shown.window_keys.Goals as goal

pub returns : goal.returns
returns c = record { down = window-down; next = window-next; before = window-before; close = window-close; pick = window-pick; none = window-none }
