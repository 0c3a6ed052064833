-- Each value computes.
use Rattle.std.proofs.Common.{refl}
use Rattle.chew_spec_program.specs.Command.{command_of}
use Rattle.chew_spec_program.proofs.laws.command.unknown_commands.Goals as goal

pub returns : goal.returns
unfolding command_of
returns c = record { none = refl; other = refl; longer = refl; shorter = refl; capital = refl; names = refl; help = refl; version = refl; empty = refl; empty_first = refl }
