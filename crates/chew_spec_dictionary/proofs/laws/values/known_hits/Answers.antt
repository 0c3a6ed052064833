-- Each value computes.
use Rattle.std.proofs.Common.{refl}
use Rattle.chew_spec_dictionary.specs.Look.{hits_of}
use Rattle.chew_spec_dictionary.proofs.laws.values.known_hits.Goals as goal

pub returns-clause-by_interval : goal.returns-clause-by_interval
unfolding hits_of
returns-clause-by_interval c = refl

pub returns-clause-one_syllable : goal.returns-clause-one_syllable
unfolding hits_of
returns-clause-one_syllable c = refl
