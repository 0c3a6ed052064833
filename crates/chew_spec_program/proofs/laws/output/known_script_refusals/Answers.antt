-- Each value computes.
use Rattle.std.proofs.Common.{refl}
use Rattle.std.specs.Fmt.{digits}
use Rattle.chew_spec_program.proofs.laws.output.known_script_refusals.Goals as goal

pub returns-clause-size : goal.returns-clause-size
unfolding digits
returns-clause-size c = refl

pub returns-clause-byte : goal.returns-clause-byte
unfolding digits
returns-clause-byte c = refl

pub returns-clause-form : goal.returns-clause-form
unfolding digits
returns-clause-form c = refl

pub returns-clause-context : goal.returns-clause-context
unfolding digits
returns-clause-context c = refl

pub returns-clause-key : goal.returns-clause-key
unfolding digits
returns-clause-key c = refl

pub returns-clause-keys : goal.returns-clause-keys
unfolding digits
returns-clause-keys c = refl

pub returns-clause-rounds : goal.returns-clause-rounds
unfolding digits
returns-clause-rounds c = refl

pub returns-clause-status : goal.returns-clause-status
unfolding digits
returns-clause-status c = λ line cause. refl
