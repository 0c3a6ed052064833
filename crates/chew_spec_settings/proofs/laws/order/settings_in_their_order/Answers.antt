-- Each value computes.
use Rattle.std.proofs.Common.{refl}
use Rattle.chew_spec_settings.proofs.Computing.{settings_on_literals}
use Rattle.chew_spec_settings.proofs.laws.order.settings_in_their_order.Goals as goal

pub returns-clause-layout : goal.returns-clause-layout
unfolding settings_on_literals
returns-clause-layout c = refl

pub returns-clause-buffer : goal.returns-clause-buffer
unfolding settings_on_literals
returns-clause-buffer c = refl

pub returns-clause-page : goal.returns-clause-page
unfolding settings_on_literals
returns-clause-page c = refl

pub returns-clause-selection : goal.returns-clause-selection
unfolding settings_on_literals
returns-clause-selection c = refl

pub returns-clause-escape_clears : goal.returns-clause-escape_clears
unfolding settings_on_literals
returns-clause-escape_clears c = refl

pub returns-clause-learn : goal.returns-clause-learn
unfolding settings_on_literals
returns-clause-learn c = refl

pub returns-clause-first : goal.returns-clause-first
unfolding settings_on_literals
returns-clause-first c = refl

pub returns-clause-last : goal.returns-clause-last
unfolding settings_on_literals
returns-clause-last c = refl
