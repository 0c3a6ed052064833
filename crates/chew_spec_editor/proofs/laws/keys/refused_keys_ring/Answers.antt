use Rattle.chew_spec_editor.proofs.RefusedKeys.{press-not_mine, press-refused}
use Rattle.chew_spec_editor.proofs.laws.keys.refused_keys_ring.Goals as goal

pub returns : goal.returns
returns c = record { refused = press-refused; not_mine = press-not_mine }
