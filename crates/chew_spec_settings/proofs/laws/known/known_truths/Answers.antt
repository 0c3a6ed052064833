-- Each value computes.
use Rattle.std.proofs.Common.{refl}
use Rattle.chew_spec_settings.proofs.Computing.{settings_on_literals}
use Rattle.chew_spec_settings.proofs.laws.known.known_truths.Goals as goal

pub returns-clause-escape_clears : goal.returns-clause-escape_clears
unfolding settings_on_literals
returns-clause-escape_clears c = refl

pub returns-clause-escape_leaves : goal.returns-clause-escape_leaves
unfolding settings_on_literals
returns-clause-escape_leaves c = refl

pub returns-clause-learn : goal.returns-clause-learn
unfolding settings_on_literals
returns-clause-learn c = refl

pub returns-clause-learn_not : goal.returns-clause-learn_not
unfolding settings_on_literals
returns-clause-learn_not c = refl
