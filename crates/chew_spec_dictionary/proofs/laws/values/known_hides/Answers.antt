-- Each value computes.
use Rattle.std.proofs.Common.{refl}
use Rattle.chew_spec_dictionary.specs.Frequency.{update}
use Rattle.chew_spec_dictionary.specs.Dictionary.{learn, forget, hide}
use Rattle.chew_spec_dictionary.specs.Look.{hits_of}
use Rattle.chew_spec_dictionary.proofs.laws.values.known_hides.Goals as goal

pub returns-clause-hidden_twice : goal.returns-clause-hidden_twice
unfolding update learn forget hide hits_of
returns-clause-hidden_twice c = refl

pub returns-clause-life : goal.returns-clause-life
unfolding update learn forget hide hits_of
returns-clause-life c = refl

pub returns-clause-pairs : goal.returns-clause-pairs
unfolding update learn forget hide hits_of
returns-clause-pairs c = refl

pub returns-clause-full : goal.returns-clause-full
unfolding update learn forget hide hits_of
returns-clause-full c = refl

pub returns-clause-looked_up : goal.returns-clause-looked_up
unfolding update learn forget hide hits_of
returns-clause-looked_up c = refl

pub returns-clause-not_counted : goal.returns-clause-not_counted
unfolding update learn forget hide hits_of
returns-clause-not_counted c = refl
