-- Each value computes.
use Rattle.std.proofs.Common.{refl}
use Rattle.std.specs.Fmt.{digits}
use Rattle.chew_spec_program.proofs.laws.output.known_slot_refusals.Goals as goal

pub returns : goal.returns
unfolding digits
returns c = record { damaged = refl; damaged_one = refl; too_large = refl; status_damaged = λ slot place. refl; status_too_large = λ slot len. refl }
