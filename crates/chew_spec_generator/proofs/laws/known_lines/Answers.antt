-- By drawing.
use Rattle.std.proofs.Common.{refl}
use Rattle.chew_spec_generator.specs.Generator.{draws_from, lines_from, number_after}
use Rattle.chew_spec_generator.proofs.laws.known_lines.Goals as goal

pub returns : goal.returns
unfolding draws_from lines_from number_after
returns c = record { first = refl; last = refl; zero = refl; greatest = refl }
