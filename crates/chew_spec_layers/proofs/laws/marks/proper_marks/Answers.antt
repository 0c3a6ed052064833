-- Each law is a lemma.
use Rattle.chew_spec_layers.proofs.Proper.{grave_proper, live_proper, proper_pair, proper_row}
use Rattle.chew_spec_layers.proofs.laws.marks.proper_marks.Goals as goal

pub returns-clause-live : goal.returns-clause-live
returns-clause-live c = live_proper

pub returns-clause-grave : goal.returns-clause-grave
returns-clause-grave c = grave_proper

pub returns-clause-pair : goal.returns-clause-pair
returns-clause-pair c = proper_pair

pub returns-clause-row : goal.returns-clause-row
returns-clause-row c = proper_row
