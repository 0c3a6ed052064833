-- Each value computes.
use Rattle.std.proofs.Common.{refl}
use Rattle.chew_spec_settings.proofs.Computing.{settings_on_literals}
use Rattle.chew_spec_settings.proofs.laws.ranges.names_of_layouts.Goals as goal

pub returns-clause-capital : goal.returns-clause-capital
unfolding settings_on_literals
returns-clause-capital c = refl

pub returns-clause-capitals : goal.returns-clause-capitals
unfolding settings_on_literals
returns-clause-capitals c = refl

pub returns-clause-other : goal.returns-clause-other
unfolding settings_on_literals
returns-clause-other c = refl

pub returns-clause-longer : goal.returns-clause-longer
unfolding settings_on_literals
returns-clause-longer c = refl

pub returns-clause-shorter : goal.returns-clause-shorter
unfolding settings_on_literals
returns-clause-shorter c = refl

pub returns-clause-empty : goal.returns-clause-empty
unfolding settings_on_literals
returns-clause-empty c = refl
