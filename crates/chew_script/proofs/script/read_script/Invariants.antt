-- The script so far and the lines that are left make what the text makes.
use Rattle.std.proofs.Common.{◌+◌, ◌≤◌, length}
use Rattle.chew_spec_text.specs.Script.{script_of}
use Rattle.chew_text.proofs.LinesTaken.{Leaves}
use Rattle.chew_script.proofs.Texts.{taken}
use Rattle.chew_script.proofs.script.read_script.Given as goal

abbrev pub decreases-lines : goal.decreases-lines
decreases-lines l = length l.lines

abbrev pub invariant-lines : goal.invariant-lines
invariant-lines l = record {
  read : Leaves taken (script_of l.text) l.number l.script l.lines;
  counted : l.number + length l.lines ≤ length l.text + 1;
}
