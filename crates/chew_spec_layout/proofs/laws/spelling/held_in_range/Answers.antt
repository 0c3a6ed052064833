-- By the outcomes of a key.
use Rattle.chew_spec_layout.proofs.Spelling.{stays, whole_is_code}
use Rattle.chew_spec_layout.proofs.laws.spelling.held_in_range.Goals as goal

pub returns : goal.returns
returns c = record { stays = stays; whole = whole_is_code }
