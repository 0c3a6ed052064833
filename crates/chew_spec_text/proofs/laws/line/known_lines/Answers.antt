-- Each value computes.
use Rattle.std.proofs.Common.{refl}
use lib.Utf8.{encode}
use Rattle.std.specs.Fmt.{digits}
use Rattle.chew_spec_text.specs.Line.{line_text}
use Rattle.chew_spec_text.proofs.laws.line.known_lines.Goals as goal

pub returns-clause-committed : goal.returns-clause-committed
unfolding line_text digits encode
returns-clause-committed c = refl

pub returns-clause-bell : goal.returns-clause-bell
unfolding line_text digits encode
returns-clause-bell c = refl

pub returns-clause-window : goal.returns-clause-window
unfolding line_text digits encode
returns-clause-window c = refl

pub returns-clause-notes : goal.returns-clause-notes
unfolding line_text digits encode
returns-clause-notes c = refl
