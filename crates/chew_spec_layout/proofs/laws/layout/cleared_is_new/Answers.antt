-- Kind by kind.
use Rattle.chew_spec_layout.proofs.AnyLayout.{cleared-new, empty-new}
use Rattle.chew_spec_layout.proofs.laws.layout.cleared_is_new.Goals as goal

pub returns : goal.returns
returns c = record { cleared = cleared-new; empty = empty-new }
