-- The number computes.
use Rattle.std.proofs.Common.{refl}
use Rattle.chew_spec_syllable.proofs.laws.syllable.number_of_syllables.Goals as goal

pub returns : goal.returns
returns c = refl
