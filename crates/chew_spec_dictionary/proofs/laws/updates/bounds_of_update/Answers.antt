-- Each law is a lemma.
use Rattle.chew_spec_dictionary.proofs.Updates.{update_most, update_least, update_late_least, update_rises, update_late_most}
use Rattle.chew_spec_dictionary.proofs.laws.updates.bounds_of_update.Goals as goal

pub returns-clause-greatest : goal.returns-clause-greatest
returns-clause-greatest c = update_most

pub returns-clause-not_below_orig : goal.returns-clause-not_below_orig
returns-clause-not_below_orig c = update_least

pub returns-clause-late_not_below_orig : goal.returns-clause-late_not_below_orig
returns-clause-late_not_below_orig c = update_late_least

pub returns-clause-rises : goal.returns-clause-rises
returns-clause-rises c = update_rises

pub returns-clause-late_falls : goal.returns-clause-late_falls
returns-clause-late_falls c = update_late_most
