-- Each value computes.
use Rattle.std.proofs.Common.{refl}
use Rattle.std.specs.Fmt.{digits}
use Rattle.chew_spec_text.specs.KeyStroke.{keys_in}
use Rattle.chew_spec_text.proofs.laws.keys.known_keys.Goals as goal

pub returns-clause-characters : goal.returns-clause-characters
unfolding keys_in digits
returns-clause-characters c = refl

pub returns-clause-mixed : goal.returns-clause-mixed
unfolding keys_in digits
returns-clause-mixed c = refl

pub returns-clause-empty : goal.returns-clause-empty
unfolding keys_in digits
returns-clause-empty c = refl

pub returns-clause-alone : goal.returns-clause-alone
unfolding keys_in digits
returns-clause-alone c = refl

pub returns-clause-cut : goal.returns-clause-cut
unfolding keys_in digits
returns-clause-cut c = refl

pub returns-clause-two : goal.returns-clause-two
unfolding keys_in digits
returns-clause-two c = refl

pub returns-clause-unnamed : goal.returns-clause-unnamed
unfolding keys_in digits
returns-clause-unnamed c = refl

pub returns-clause-other : goal.returns-clause-other
unfolding keys_in digits
returns-clause-other c = refl
