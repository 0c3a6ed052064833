-- By the outcomes of a key.
use Rattle.chew_spec_layout.proofs.Spelling.{kept_at_refused, kept_at_not_mine}
use Rattle.chew_spec_layout.proofs.laws.spelling.kept_otherwise.Goals as goal

pub returns : goal.returns
returns c = record { refused = kept_at_refused; not_mine = kept_at_not_mine }
