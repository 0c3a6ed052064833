-- Each value computes.
use Rattle.std.proofs.Common.{refl}
use Rattle.chew_spec_layout.specs.Table.{fed}
use Rattle.chew_spec_layout.proofs.laws.table.eten_numbers.Goals as goal

pub returns-clause-initials : goal.returns-clause-initials
unfolding fed
returns-clause-initials c = refl

pub returns-clause-medials : goal.returns-clause-medials
unfolding fed
returns-clause-medials c = refl

pub returns-clause-finals : goal.returns-clause-finals
unfolding fed
returns-clause-finals c = refl

pub returns-clause-tones : goal.returns-clause-tones
unfolding fed
returns-clause-tones c = refl
