-- By drawing.
use Rattle.std.proofs.Common.{refl}
use Rattle.chew_spec_text.specs.KeyStroke.{keys_in}
use Rattle.chew_spec_generator.specs.Generator.{draws_from, generated_keys}
use Rattle.chew_spec_generator.proofs.laws.known_keys.Goals as goal

pub returns : goal.returns
unfolding draws_from generated_keys keys_in
returns c = refl
