-- Each value computes.
use Rattle.std.proofs.Common.{refl}
use Rattle.std.specs.Fmt.{digits}
use Rattle.chew_spec_program.proofs.laws.output.known_system_refusals.Goals as goal

pub returns-clause-size : goal.returns-clause-size
unfolding digits
returns-clause-size c = refl

pub returns-clause-phrase : goal.returns-clause-phrase
unfolding digits
returns-clause-phrase c = refl

pub returns-clause-frequency : goal.returns-clause-frequency
unfolding digits
returns-clause-frequency c = refl

pub returns-clause-syllable : goal.returns-clause-syllable
unfolding digits
returns-clause-syllable c = refl

pub returns-clause-lengths : goal.returns-clause-lengths
unfolding digits
returns-clause-lengths c = refl

pub returns-clause-twice : goal.returns-clause-twice
unfolding digits
returns-clause-twice c = refl

pub returns-clause-rows : goal.returns-clause-rows
unfolding digits
returns-clause-rows c = refl

pub returns-clause-status : goal.returns-clause-status
unfolding digits
returns-clause-status c = λ line cause. refl
