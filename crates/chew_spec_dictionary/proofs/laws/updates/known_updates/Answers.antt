-- Each value computes.
use Rattle.std.proofs.Common.{refl}
use Rattle.chew_spec_dictionary.specs.Frequency.{update}
use Rattle.chew_spec_dictionary.proofs.laws.updates.known_updates.Goals as goal

pub returns-clause-greatest : goal.returns-clause-greatest
unfolding update
returns-clause-greatest c = refl

pub returns-clause-soon : goal.returns-clause-soon
unfolding update
returns-clause-soon c = refl

pub returns-clause-later : goal.returns-clause-later
unfolding update
returns-clause-later c = refl

pub returns-clause-nearly_late : goal.returns-clause-nearly_late
unfolding update
returns-clause-nearly_late c = refl

pub returns-clause-late : goal.returns-clause-late
unfolding update
returns-clause-late c = refl

pub returns-clause-not_below_orig : goal.returns-clause-not_below_orig
unfolding update
returns-clause-not_below_orig c = refl
