use Rattle.chew_spec_editor.proofs.Moves.{press-end, press-home, press-last, press-left, press-right, press-start}
use Rattle.chew_spec_editor.proofs.laws.keys.moves_change_the_cursor.Goals as goal

pub returns : goal.returns
returns c = record { left = press-left; right = press-right; home = press-home; end = press-end; start = press-start; last = press-last }
