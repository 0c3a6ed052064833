-- Each value computes.
use Rattle.std.proofs.Common.{refl}
use Rattle.chew_spec_dictionary.specs.Frequency.{update}
use Rattle.chew_spec_dictionary.specs.Dictionary.{learn, forget, hide}
use Rattle.chew_spec_layers.proofs.laws.known.known_touches.Goals as goal

pub returns-clause-learnt : goal.returns-clause-learnt
unfolding update learn forget hide
returns-clause-learnt c = refl

pub returns-clause-full : goal.returns-clause-full
unfolding update learn forget hide
returns-clause-full c = refl

pub returns-clause-forgotten : goal.returns-clause-forgotten
unfolding update learn forget hide
returns-clause-forgotten c = refl

pub returns-clause-again : goal.returns-clause-again
unfolding update learn forget hide
returns-clause-again c = refl

pub returns-clause-before : goal.returns-clause-before
unfolding update learn forget hide
returns-clause-before c = refl

pub returns-clause-hidden : goal.returns-clause-hidden
unfolding update learn forget hide
returns-clause-hidden c = refl

pub returns-clause-hidden_again : goal.returns-clause-hidden_again
unfolding update learn forget hide
returns-clause-hidden_again c = refl
