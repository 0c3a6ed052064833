-- Each value computes.
use Rattle.std.proofs.Common.{refl}
use Rattle.chew_spec_settings.proofs.Computing.{settings_on_literals}
use Rattle.chew_spec_settings.proofs.laws.known.known_layouts.Goals as goal

pub returns-clause-standard : goal.returns-clause-standard
unfolding settings_on_literals
returns-clause-standard c = refl

pub returns-clause-eten : goal.returns-clause-eten
unfolding settings_on_literals
returns-clause-eten c = refl

pub returns-clause-hsu : goal.returns-clause-hsu
unfolding settings_on_literals
returns-clause-hsu c = refl

pub returns-clause-et26 : goal.returns-clause-et26
unfolding settings_on_literals
returns-clause-et26 c = refl

pub returns-clause-pinyin : goal.returns-clause-pinyin
unfolding settings_on_literals
returns-clause-pinyin c = refl
