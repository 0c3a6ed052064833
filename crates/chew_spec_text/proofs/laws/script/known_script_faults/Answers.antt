-- Each value computes.
use Rattle.std.proofs.Common.{refl}
use Rattle.std.specs.Fmt.{digits}
use Rattle.chew_spec_text.specs.KeyStroke.{keys_in}
use Rattle.chew_spec_text.specs.Script.{script_of}
use Rattle.chew_spec_text.proofs.laws.script.known_script_faults.Goals as goal

pub returns-clause-byte : goal.returns-clause-byte
unfolding script_of keys_in digits
returns-clause-byte c = refl

pub returns-clause-two_returns : goal.returns-clause-two_returns
unfolding script_of keys_in digits
returns-clause-two_returns c = refl

pub returns-clause-no_colon : goal.returns-clause-no_colon
unfolding script_of keys_in digits
returns-clause-no_colon c = refl

pub returns-clause-no_number : goal.returns-clause-no_number
unfolding script_of keys_in digits
returns-clause-no_number c = refl

pub returns-clause-rounds : goal.returns-clause-rounds
unfolding script_of keys_in digits
returns-clause-rounds c = refl

pub returns-clause-context : goal.returns-clause-context
unfolding script_of keys_in digits
returns-clause-context c = refl

pub returns-clause-zero : goal.returns-clause-zero
unfolding script_of keys_in digits
returns-clause-zero c = refl

pub returns-clause-leading_zero : goal.returns-clause-leading_zero
unfolding script_of keys_in digits
returns-clause-leading_zero c = refl

pub returns-clause-key : goal.returns-clause-key
unfolding script_of keys_in digits
returns-clause-key c = refl

pub returns-clause-open_name : goal.returns-clause-open_name
unfolding script_of keys_in digits
returns-clause-open_name c = refl

pub returns-clause-below_space : goal.returns-clause-below_space
unfolding script_of keys_in digits
returns-clause-below_space c = refl

pub returns-clause-above_tilde : goal.returns-clause-above_tilde
unfolding script_of keys_in digits
returns-clause-above_tilde c = refl

pub returns-clause-byte_first : goal.returns-clause-byte_first
unfolding script_of keys_in digits
returns-clause-byte_first c = refl

pub returns-clause-return_inside : goal.returns-clause-return_inside
unfolding script_of keys_in digits
returns-clause-return_inside c = refl

pub returns-clause-comment_inside : goal.returns-clause-comment_inside
unfolding script_of keys_in digits
returns-clause-comment_inside c = refl

pub returns-clause-other_digits : goal.returns-clause-other_digits
unfolding script_of keys_in digits
returns-clause-other_digits c = refl

pub returns-clause-other_word : goal.returns-clause-other_word
unfolding script_of keys_in digits
returns-clause-other_word c = refl

pub returns-clause-too_long_a_number : goal.returns-clause-too_long_a_number
unfolding script_of keys_in digits
returns-clause-too_long_a_number c = refl
