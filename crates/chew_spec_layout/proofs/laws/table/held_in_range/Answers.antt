-- By what each key does.
use Rattle.chew_spec_layout.proofs.Held.{stays, whole_is_code}
use Rattle.chew_spec_layout.proofs.laws.table.held_in_range.Goals as goal

pub returns : goal.returns
returns c = record { stays = stays; whole = whole_is_code }
