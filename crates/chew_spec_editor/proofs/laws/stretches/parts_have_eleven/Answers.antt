use Rattle.chew_spec_editor.proofs.LongestStretches.{full-part, last-part, parts-of_stretch}
use Rattle.chew_spec_editor.proofs.laws.stretches.parts_have_eleven.Goals as goal

pub returns : goal.returns
returns c = record { joined = parts-of_stretch; full = full-part; last = last-part }
