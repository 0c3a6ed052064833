-- The value computes.
use Rattle.std.proofs.Common.{refl}
use Rattle.chew_spec_dictionary.specs.Look.{hits_of}
use Rattle.chew_spec_dictionary.proofs.laws.values.known_snapshots.Goals as goal

pub returns : goal.returns
unfolding hits_of
returns c = record { frozen = refl }
