-- Each value computes.
use Rattle.std.proofs.Common.{refl}
use Rattle.chew_spec_settings.proofs.Computing.{settings_on_literals}
use Rattle.chew_spec_settings.proofs.laws.known.known_settings.Goals as goal

pub returns-clause-empty : goal.returns-clause-empty
unfolding settings_on_literals
returns-clause-empty c = refl

pub returns-clause-comment : goal.returns-clause-comment
unfolding settings_on_literals
returns-clause-comment c = refl

pub returns-clause-all : goal.returns-clause-all
unfolding settings_on_literals
returns-clause-all c = refl

pub returns-clause-hexadecimal : goal.returns-clause-hexadecimal
unfolding settings_on_literals
returns-clause-hexadecimal c = refl

pub returns-clause-escaped : goal.returns-clause-escaped
unfolding settings_on_literals
returns-clause-escaped c = refl
