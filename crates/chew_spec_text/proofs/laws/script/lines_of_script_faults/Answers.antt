-- By the lines, taken one after another.
use Rattle.std.proofs.Common.{leb, length, refl}
use Rattle.chew_spec_text.specs.Script.{Size, script_limit, script_of}
use Rattle.chew_spec_text.proofs.Limited.{refused, whole, sized, at_most, later}
use Rattle.chew_spec_text.proofs.Script.{taken, start}
use Rattle.chew_spec_text.proofs.ScriptFaults.{never_size}
use Rattle.chew_spec_text.proofs.laws.script.lines_of_script_faults.Goals as goal

pub returns : goal.returns
unfolding script_of
returns c = record {
  too_long = refused script_limit Size taken start;
  whole = λ text fault h zero_is. whole (leb (length text) script_limit) Size taken start text fault h zero_is;
  size = λ text fault h is. sized (leb (length text) script_limit) script_limit Size taken start text fault refl never_size h is;
  at_most = λ text fault h. at_most (leb (length text) script_limit) Size taken start text fault h;
  later = λ text other fault h low short same. later (leb (length text) script_limit) script_limit Size taken start text other fault h low short same;
}
