-- By drawing.
use Rattle.std.proofs.Common.{refl}
use Rattle.chew_spec_generator.specs.Generator.{draws_from}
use Rattle.chew_spec_generator.proofs.laws.known_draws.Goals as goal

pub returns : goal.returns
unfolding draws_from
returns c = record { seven = refl; zero = refl; greatest = refl }
