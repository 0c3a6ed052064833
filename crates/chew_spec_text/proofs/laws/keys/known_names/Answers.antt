-- Each value computes.
use Rattle.std.proofs.Common.{refl}
use Rattle.std.specs.Fmt.{digits}
use Rattle.chew_spec_text.specs.KeyStroke.{keys_in}
use Rattle.chew_spec_text.proofs.laws.keys.known_names.Goals as goal

pub returns-clause-editing : goal.returns-clause-editing
unfolding keys_in digits
returns-clause-editing c = refl

pub returns-clause-moving : goal.returns-clause-moving
unfolding keys_in digits
returns-clause-moving c = refl

pub returns-clause-less_than : goal.returns-clause-less_than
unfolding keys_in digits
returns-clause-less_than c = refl

pub returns-clause-adding : goal.returns-clause-adding
unfolding keys_in digits
returns-clause-adding c = refl

pub returns-clause-forgetting : goal.returns-clause-forgetting
unfolding keys_in digits
returns-clause-forgetting c = refl

pub returns-clause-no_names : goal.returns-clause-no_names
unfolding keys_in digits
returns-clause-no_names c = refl

pub returns-clause-hiding : goal.returns-clause-hiding
unfolding keys_in digits
returns-clause-hiding c = refl

pub returns-clause-other_words : goal.returns-clause-other_words
unfolding keys_in digits
returns-clause-other_words c = refl
