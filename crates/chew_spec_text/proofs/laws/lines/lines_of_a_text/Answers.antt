-- By the parts between line feeds.
use Rattle.chew_spec_text.proofs.Lines.{lines_back, returned_back, no_line_feed, lines_joined}
use Rattle.chew_spec_text.proofs.laws.lines.lines_of_a_text.Goals as goal

pub returns : goal.returns
returns c = record { read = lines_back; returns = returned_back; no_line_feed = no_line_feed; joined = lines_joined }
