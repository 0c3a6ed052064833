-- Each value computes.
use Rattle.std.proofs.Common.{refl}
use Rattle.chew_spec_program.specs.Command.{command_of}
use Rattle.chew_spec_program.proofs.laws.command.known_runs.Goals as goal

pub returns : goal.returns
unfolding command_of
returns c = record { three = refl; four = refl; dash_inside = refl; alike = refl; two = refl; five = refl }
