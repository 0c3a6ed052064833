-- Each value computes.
use Rattle.std.proofs.Common.{refl}
use Rattle.chew_spec_settings.proofs.Computing.{settings_on_literals}
use Rattle.chew_spec_settings.proofs.laws.ranges.range_of_the_selection.Goals as goal

pub returns-clause-ends : goal.returns-clause-ends
unfolding settings_on_literals
returns-clause-ends c = refl

pub returns-clause-twice : goal.returns-clause-twice
unfolding settings_on_literals
returns-clause-twice c = refl

pub returns-clause-beside : goal.returns-clause-beside
unfolding settings_on_literals
returns-clause-beside c = refl

pub returns-clause-space : goal.returns-clause-space
unfolding settings_on_literals
returns-clause-space c = refl

pub returns-clause-delete : goal.returns-clause-delete
unfolding settings_on_literals
returns-clause-delete c = refl

pub returns-clause-nine : goal.returns-clause-nine
unfolding settings_on_literals
returns-clause-nine c = refl

pub returns-clause-eleven : goal.returns-clause-eleven
unfolding settings_on_literals
returns-clause-eleven c = refl

pub returns-clause-empty : goal.returns-clause-empty
unfolding settings_on_literals
returns-clause-empty c = refl

pub returns-clause-ten_bytes : goal.returns-clause-ten_bytes
unfolding settings_on_literals
returns-clause-ten_bytes c = refl

pub returns-clause-ten_characters : goal.returns-clause-ten_characters
unfolding settings_on_literals
returns-clause-ten_characters c = refl
