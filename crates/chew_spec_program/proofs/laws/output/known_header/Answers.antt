-- Each value computes.
use Rattle.std.proofs.Common.{refl}
use Rattle.std.specs.Fmt.{digits}
use Rattle.chew_spec_program.proofs.laws.output.known_header.Goals as goal

pub returns : goal.returns
unfolding digits
returns c = record { first = refl; last = refl }
