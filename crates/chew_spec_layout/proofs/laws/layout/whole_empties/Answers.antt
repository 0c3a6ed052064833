-- By what a key does to each.
use Rattle.chew_spec_layout.proofs.AnyLayout.{feed-new, feed-holds}
use Rattle.chew_spec_layout.proofs.laws.layout.whole_empties.Goals as goal

pub returns : goal.returns
returns c = record { new = feed-new; holds = feed-holds }
