-- Each value computes.
use Rattle.std.proofs.Common.{refl}
use Rattle.std.specs.Fmt.{digits}
use Rattle.chew_spec_text.specs.KeyStroke.{keys_in}
use Rattle.chew_spec_text.specs.Script.{script_of}
use Rattle.chew_spec_text.proofs.laws.script.known_scripts.Goals as goal

pub returns-clause-keys : goal.returns-clause-keys
unfolding script_of keys_in digits
returns-clause-keys c = refl

pub returns-clause-ended : goal.returns-clause-ended
unfolding script_of keys_in digits
returns-clause-ended c = refl

pub returns-clause-empty : goal.returns-clause-empty
unfolding script_of keys_in digits
returns-clause-empty c = refl

pub returns-clause-third : goal.returns-clause-third
unfolding script_of keys_in digits
returns-clause-third c = refl

pub returns-clause-joined : goal.returns-clause-joined
unfolding script_of keys_in digits
returns-clause-joined c = refl

pub returns-clause-rounds : goal.returns-clause-rounds
unfolding script_of keys_in digits
returns-clause-rounds c = refl

pub returns-clause-colon : goal.returns-clause-colon
unfolding script_of keys_in digits
returns-clause-colon c = refl

pub returns-clause-hash : goal.returns-clause-hash
unfolding script_of keys_in digits
returns-clause-hash c = refl

pub returns-clause-two_digits : goal.returns-clause-two_digits
unfolding script_of keys_in digits
returns-clause-two_digits c = refl

pub returns-clause-least_and_greatest : goal.returns-clause-least_and_greatest
unfolding script_of keys_in digits
returns-clause-least_and_greatest c = refl
