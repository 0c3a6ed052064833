-- Each value computes.
use Rattle.std.proofs.Common.{refl}
use Rattle.chew_spec_settings.proofs.Computing.{settings_on_literals}
use Rattle.chew_spec_settings.proofs.laws.order.unknown_first.Goals as goal

pub returns-clause-misspelt : goal.returns-clause-misspelt
unfolding settings_on_literals
returns-clause-misspelt c = refl

pub returns-clause-behind : goal.returns-clause-behind
unfolding settings_on_literals
returns-clause-behind c = refl

pub returns-clause-before : goal.returns-clause-before
unfolding settings_on_literals
returns-clause-before c = refl

pub returns-clause-after_all : goal.returns-clause-after_all
unfolding settings_on_literals
returns-clause-after_all c = refl

pub returns-clause-capital : goal.returns-clause-capital
unfolding settings_on_literals
returns-clause-capital c = refl

pub returns-clause-longer : goal.returns-clause-longer
unfolding settings_on_literals
returns-clause-longer c = refl

pub returns-clause-empty : goal.returns-clause-empty
unfolding settings_on_literals
returns-clause-empty c = refl

pub returns-clause-mark : goal.returns-clause-mark
unfolding settings_on_literals
returns-clause-mark c = refl

pub returns-clause-header : goal.returns-clause-header
unfolding settings_on_literals
returns-clause-header c = refl
