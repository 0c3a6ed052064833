-- Each value computes.
use Rattle.std.proofs.Common.{refl}
use Rattle.std.specs.Char.{encode_utf8}
use Rattle.std.specs.Fmt.{digits}
use Rattle.chew_spec_text.specs.Entry.{entry_text}
use Rattle.chew_spec_program.proofs.laws.output.known_trace.Goals as goal

pub returns : goal.returns
unfolding entry_text digits encode_utf8
returns c = record { asked = refl; all = λ journal. refl; none = λ journal. refl }
