-- Each value computes.
use Rattle.std.proofs.Common.{refl}
use Rattle.chew_spec_text.proofs.laws.digits.known_numbers.Goals as goal

pub returns-clause-numbers : goal.returns-clause-numbers
returns-clause-numbers c = refl

pub returns-clause-beside : goal.returns-clause-beside
returns-clause-beside c = refl

pub returns-clause-empty : goal.returns-clause-empty
returns-clause-empty c = refl

pub returns-clause-greater : goal.returns-clause-greater
returns-clause-greater c = refl
