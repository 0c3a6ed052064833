-- Each value computes.
use Rattle.std.proofs.Common.{refl}
use Rattle.chew_spec_program.specs.Command.{command_of}
use Rattle.chew_spec_program.proofs.laws.command.known_numbers.Goals as goal

pub returns : goal.returns
unfolding command_of
returns c = record { zero = refl; zeros = refl; twenty = refl; greatest = refl; greater = refl; twenty_one = refl; empty = refl; letter = refl; plus = refl; minus = refl; space = refl }
