-- Each value computes.
use Rattle.std.proofs.Common.{refl}
use Rattle.chew_spec_text.proofs.laws.lines.known_lines_of_texts.Goals as goal

pub returns-clause-empty : goal.returns-clause-empty
returns-clause-empty c = refl

pub returns-clause-ended : goal.returns-clause-ended
returns-clause-ended c = refl

pub returns-clause-returns : goal.returns-clause-returns
returns-clause-returns c = refl

pub returns-clause-alone : goal.returns-clause-alone
returns-clause-alone c = refl

pub returns-clause-other : goal.returns-clause-other
returns-clause-other c = refl
