-- Each value computes.
use Rattle.std.proofs.Common.{refl}
use Rattle.chew_spec_layout.specs.Table.{fed}
use Rattle.chew_spec_layout.proofs.laws.table.known_steps.Goals as goal

pub returns-clause-ce : goal.returns-clause-ce
unfolding fed
returns-clause-ce c = refl

pub returns-clause-shi : goal.returns-clause-shi
unfolding fed
returns-clause-shi c = refl

pub returns-clause-space : goal.returns-clause-space
unfolding fed
returns-clause-space c = refl

pub returns-clause-first_tone : goal.returns-clause-first_tone
unfolding fed
returns-clause-first_tone c = refl

pub returns-clause-tone_alone : goal.returns-clause-tone_alone
unfolding fed
returns-clause-tone_alone c = refl

pub returns-clause-erase : goal.returns-clause-erase
unfolding fed
returns-clause-erase c = refl

pub returns-clause-all_parts : goal.returns-clause-all_parts
unfolding fed
returns-clause-all_parts c = refl

pub returns-clause-any_order : goal.returns-clause-any_order
unfolding fed
returns-clause-any_order c = refl

pub returns-clause-eten : goal.returns-clause-eten
unfolding fed
returns-clause-eten c = refl
