-- Each value computes.
use Rattle.std.proofs.Common.{refl}
use Rattle.std.specs.Fmt.{digits}
use Rattle.chew_spec_program.proofs.laws.output.known_image_refusals.Goals as goal

pub returns-clause-first : goal.returns-clause-first
unfolding digits
returns-clause-first c = refl

pub returns-clause-later : goal.returns-clause-later
unfolding digits
returns-clause-later c = refl
