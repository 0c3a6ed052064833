-- By what each key does.
use Rattle.chew_spec_layout.proofs.Lettered.{stays, whole_is_code}
use Rattle.chew_spec_layout.proofs.laws.letters.held_are_letters.Goals as goal

pub returns : goal.returns
returns c = record { stays = stays; whole = whole_is_code }
