-- Each value computes.
use Rattle.std.proofs.Common.{refl}
use Rattle.chew_spec_settings.proofs.Computing.{settings_on_literals}
use Rattle.chew_spec_settings.proofs.laws.ranges.range_of_the_cap.Goals as goal

pub returns-clause-least : goal.returns-clause-least
unfolding settings_on_literals
returns-clause-least c = refl

pub returns-clause-greatest : goal.returns-clause-greatest
unfolding settings_on_literals
returns-clause-greatest c = refl

pub returns-clause-below : goal.returns-clause-below
unfolding settings_on_literals
returns-clause-below c = refl

pub returns-clause-above : goal.returns-clause-above
unfolding settings_on_literals
returns-clause-above c = refl

pub returns-clause-negative : goal.returns-clause-negative
unfolding settings_on_literals
returns-clause-negative c = refl

pub returns-clause-most_bits : goal.returns-clause-most_bits
unfolding settings_on_literals
returns-clause-most_bits c = refl

pub returns-clause-more_bits : goal.returns-clause-more_bits
unfolding settings_on_literals
returns-clause-more_bits c = refl
