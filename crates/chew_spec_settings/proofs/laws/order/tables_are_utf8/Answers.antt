-- By the test, and by computing.
use Rattle.std.proofs.Common.{refl}
use Rattle.std.proofs.lemmas.Bool.{cond-false}
use Rattle.chew_spec_settings.proofs.Computing.{settings_on_literals}
use Rattle.chew_spec_settings.proofs.laws.order.tables_are_utf8.Goals as goal

pub returns-clause-no_utf8 : goal.returns-clause-no_utf8
returns-clause-no_utf8 c text broken = cond-false _ _ _ broken

pub returns-clause-comment : goal.returns-clause-comment
unfolding settings_on_literals
returns-clause-comment c = refl

pub returns-clause-cut : goal.returns-clause-cut
unfolding settings_on_literals
returns-clause-cut c = refl
