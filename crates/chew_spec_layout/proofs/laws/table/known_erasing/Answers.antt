-- Each value computes.
use Rattle.std.proofs.Common.{refl}
use Rattle.chew_spec_layout.specs.Table.{fed}
use Rattle.chew_spec_layout.proofs.laws.table.known_erasing.Goals as goal

pub returns-clause-finals : goal.returns-clause-finals
unfolding fed
returns-clause-finals c = refl

pub returns-clause-medials : goal.returns-clause-medials
unfolding fed
returns-clause-medials c = refl

pub returns-clause-initials : goal.returns-clause-initials
unfolding fed
returns-clause-initials c = refl

pub returns-clause-no_medial : goal.returns-clause-no_medial
unfolding fed
returns-clause-no_medial c = refl
