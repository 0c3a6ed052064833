-- By what a key does to each.
use Rattle.chew_spec_layout.proofs.AnyLayout.{feed-kind, feed-in_range, feed-code}
use Rattle.chew_spec_layout.proofs.laws.layout.stays_a_layout.Goals as goal

pub returns : goal.returns
returns c = record { kind = feed-kind; range = feed-in_range; whole = feed-code }
