-- Each value computes.
use Rattle.std.proofs.Common.{refl}
use Rattle.chew_spec_text.proofs.laws.dictionary_text.known_fields.Goals as goal

pub returns-clause-parted : goal.returns-clause-parted
returns-clause-parted c = refl

pub returns-clause-not_parted : goal.returns-clause-not_parted
returns-clause-not_parted c = refl

pub returns-clause-comment : goal.returns-clause-comment
returns-clause-comment c = refl

pub returns-clause-none : goal.returns-clause-none
returns-clause-none c = refl
