-- Each value computes.
use Rattle.std.proofs.Common.{refl}
use Rattle.chew_spec_program.specs.Command.{command_of}
use Rattle.chew_spec_program.proofs.laws.command.refused_traces.Goals as goal

pub returns : goal.returns
unfolding command_of
returns c = record { twice = refl; apart = refl; before = refl; shorter = refl; longer = refl; one_dash = refl; name = refl; build = refl; check = refl; make = refl }
