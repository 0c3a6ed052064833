-- Each value computes.
use Rattle.std.proofs.Common.{refl}
use Rattle.chew_spec_program.specs.Command.{command_of}
use Rattle.chew_spec_program.proofs.laws.command.empty_names_are_refused.Goals as goal

pub returns : goal.returns
unfolding command_of
returns c = record { system = refl; script = refl; folder = refl; settings = refl; build_from = refl; build_to = refl; check = refl; dump = refl }
