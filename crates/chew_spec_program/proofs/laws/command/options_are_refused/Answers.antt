-- Each value computes.
use Rattle.std.proofs.Common.{refl}
use Rattle.chew_spec_program.specs.Command.{command_of}
use Rattle.chew_spec_program.proofs.laws.command.options_are_refused.Goals as goal

pub returns : goal.returns
unfolding command_of
returns c = record { system = refl; script = refl; folder = refl; settings = refl; dash = refl; before = refl; build_from = refl; build_to = refl; check = refl; dump = refl }
