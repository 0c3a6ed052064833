-- Each value computes.
use Rattle.std.proofs.Common.{refl}
use Rattle.chew_spec_text.proofs.laws.keys.keys_in_range.Goals as goal

pub returns-clause-printable : goal.returns-clause-printable
returns-clause-printable c = refl

pub returns-clause-characters : goal.returns-clause-characters
returns-clause-characters c = refl

pub returns-clause-added : goal.returns-clause-added
returns-clause-added c = refl

pub returns-clause-forgotten : goal.returns-clause-forgotten
returns-clause-forgotten c = refl

pub returns-clause-hidden : goal.returns-clause-hidden
returns-clause-hidden c = refl
