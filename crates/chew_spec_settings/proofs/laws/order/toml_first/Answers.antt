-- Each value computes.
use Rattle.std.proofs.Common.{refl}
use Rattle.chew_spec_settings.proofs.Computing.{settings_on_literals}
use Rattle.chew_spec_settings.proofs.laws.order.toml_first.Goals as goal

pub returns-clause-word : goal.returns-clause-word
unfolding settings_on_literals
returns-clause-word c = refl

pub returns-clause-no_value : goal.returns-clause-no_value
unfolding settings_on_literals
returns-clause-no_value c = refl

pub returns-clause-twice : goal.returns-clause-twice
unfolding settings_on_literals
returns-clause-twice c = refl

pub returns-clause-one_line : goal.returns-clause-one_line
unfolding settings_on_literals
returns-clause-one_line c = refl

pub returns-clause-zeros : goal.returns-clause-zeros
unfolding settings_on_literals
returns-clause-zeros c = refl
