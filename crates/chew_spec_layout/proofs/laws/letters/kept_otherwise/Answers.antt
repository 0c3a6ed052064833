-- By what each key does.
use Rattle.chew_spec_layout.proofs.Lettered.{kept_at_refused, kept_at_not_mine}
use Rattle.chew_spec_layout.proofs.laws.letters.kept_otherwise.Goals as goal

pub returns : goal.returns
returns c = record { refused = kept_at_refused; not_mine = kept_at_not_mine }
