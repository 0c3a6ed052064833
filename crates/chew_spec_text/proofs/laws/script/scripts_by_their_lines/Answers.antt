-- By what each line does.
use Rattle.chew_spec_text.specs.Lines.{lines_of}
use Rattle.chew_spec_text.proofs.Script.{keys_by_lines, contexts_by_lines, rounds_by_lines, made_by_lines}
use Rattle.chew_spec_text.proofs.laws.script.scripts_by_their_lines.Goals as goal

pub returns : goal.returns
returns c = record {
  keys = λ text script place h. keys_by_lines 1 place script (lines_of text) (made_by_lines text script h);
  contexts = λ text script h. contexts_by_lines 1 script (lines_of text) (made_by_lines text script h);
  rounds = λ text script h. rounds_by_lines 1 script (lines_of text) (made_by_lines text script h);
}
