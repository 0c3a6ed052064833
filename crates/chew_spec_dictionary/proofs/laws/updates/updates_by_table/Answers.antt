-- Each law is a lemma.
use Rattle.chew_spec_dictionary.proofs.Updates.{soon_met, soon_below, later_met, later_below, update_late}
use Rattle.chew_spec_dictionary.proofs.laws.updates.updates_by_table.Goals as goal

pub returns-clause-soon_met : goal.returns-clause-soon_met
returns-clause-soon_met c = soon_met

pub returns-clause-soon_below : goal.returns-clause-soon_below
returns-clause-soon_below c = soon_below

pub returns-clause-later_met : goal.returns-clause-later_met
returns-clause-later_met c = later_met

pub returns-clause-later_below : goal.returns-clause-later_below
returns-clause-later_below c = later_below

pub returns-clause-late : goal.returns-clause-late
returns-clause-late c = update_late
