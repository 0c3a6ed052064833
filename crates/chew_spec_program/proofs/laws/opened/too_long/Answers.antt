use Rattle.std.proofs.Common.{refl}
use Rattle.chew_spec_program.proofs.TooLong.{long-one, long-system, long-zero}
use Rattle.chew_spec_program.proofs.laws.opened.too_long.Goals as goal

pub returns : goal.returns
returns c = record { system = long-system; zero = long-zero; one = long-one; limits = (refl, refl, refl) }
