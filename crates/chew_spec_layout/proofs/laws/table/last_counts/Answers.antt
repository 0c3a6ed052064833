-- By what a key of each kind does.
use Rattle.chew_spec_layout.proofs.Columns.{last_initial, last_medial, last_final}
use Rattle.chew_spec_layout.proofs.laws.table.last_counts.Goals as goal

pub returns : goal.returns
returns c = record { initials = last_initial; medials = last_medial; finals = last_final }
