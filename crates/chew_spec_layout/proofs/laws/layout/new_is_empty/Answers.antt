-- Kind by kind.
use Rattle.chew_spec_layout.proofs.AnyLayout.{new-kind, new-holds, new-shown, new-in_range}
use Rattle.chew_spec_layout.proofs.laws.layout.new_is_empty.Goals as goal

pub returns : goal.returns
returns c = record { kind = new-kind; holds = new-holds; shows = new-shown; range = new-in_range }
