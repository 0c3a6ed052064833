-- Each value computes.
use Rattle.std.proofs.Common.{refl}
use Rattle.chew_spec_program.specs.Command.{command_of}
use Rattle.chew_spec_program.proofs.laws.command.known_commands.Goals as goal

pub returns : goal.returns
unfolding command_of
returns c = record { build = refl; same = refl; check = refl; dump = refl; make = refl; build_one = refl; build_three = refl; check_none = refl; check_two = refl; dump_none = refl; dump_two = refl; make_none = refl; make_two = refl }
