-- By the lines, taken one after another.
use Rattle.std.proofs.Common.{◌≤◌, length, map, sym, ◌∙◌, arith}
use Rattle.std.specs.List.{flat_map}
use Rattle.chew_spec_text.specs.Line.{with_line_feed}
use Rattle.chew_spec_text.specs.Lines.{with_return}
use Rattle.chew_spec_text.specs.Statement.{says_something}
use Rattle.chew_spec_text.specs.Script.{Size, script_limit, script_of}
use Rattle.chew_spec_text.proofs.Limited.{same_lines, same_counting}
use Rattle.chew_spec_text.proofs.Lines.{lines_back, returned_back, shorter}
use Rattle.chew_spec_text.proofs.Script.{taken, start, nothing_said}
use Rattle.chew_spec_text.proofs.laws.script.what_changes_no_script.Goals as goal

pub returns : goal.returns
unfolding script_of
returns c = record {
  returns = λ lines h e short.
      let plain = flat_map with_line_feed lines in
      let few : length plain ≤ script_limit = omega (arith, shorter lines) in
      same_lines script_limit Size taken start (flat_map with_line_feed (map with_return lines)) plain short few
      (returned_back lines h ∙ sym (lines_back lines h e));
  lines = λ text other short too same. same_counting says_something script_limit Size taken start text other nothing_said short too same;
}
