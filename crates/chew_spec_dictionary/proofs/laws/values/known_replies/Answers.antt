-- Each value computes.
use Rattle.std.proofs.Common.{refl}
use Rattle.chew_spec_dictionary.specs.Frequency.{update}
use Rattle.chew_spec_dictionary.specs.Dictionary.{learn, forget}
use Rattle.chew_spec_dictionary.proofs.laws.values.known_replies.Goals as goal

pub returns-clause-learnt_twice : goal.returns-clause-learnt_twice
unfolding update learn forget
returns-clause-learnt_twice c = refl

pub returns-clause-life : goal.returns-clause-life
unfolding update learn forget
returns-clause-life c = refl

pub returns-clause-full : goal.returns-clause-full
unfolding update learn forget
returns-clause-full c = refl

pub returns-clause-forgotten_twice : goal.returns-clause-forgotten_twice
unfolding update learn forget
returns-clause-forgotten_twice c = refl
