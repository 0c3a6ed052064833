-- By what each key does.
use Rattle.chew_spec_layout.proofs.Held.{kept_held}
use Rattle.chew_spec_layout.proofs.laws.table.kept_is_held.Goals as goal

pub returns : goal.returns
returns c = kept_held
