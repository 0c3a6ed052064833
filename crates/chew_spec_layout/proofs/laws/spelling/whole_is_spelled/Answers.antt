-- By the outcomes of a key.
use Rattle.chew_spec_layout.proofs.Spelling.{whole_text}
use Rattle.chew_spec_layout.proofs.laws.spelling.whole_is_spelled.Goals as goal

pub returns : goal.returns
returns c = whole_text
