-- By what a key does to each.
use Rattle.chew_spec_layout.proofs.AnyLayout.{feed-refused, feed-not_mine}
use Rattle.chew_spec_layout.proofs.laws.layout.kept_otherwise.Goals as goal

pub returns : goal.returns
returns c = record { refused = feed-refused; not_mine = feed-not_mine }
