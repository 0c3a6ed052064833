-- By what each line keeps.
use Rattle.chew_spec_text.specs.Lines.{lines_of}
use Rattle.chew_spec_text.proofs.Script.{bounded, made_by_lines}
use Rattle.chew_spec_text.proofs.laws.script.limits_of_a_script.Goals as goal

pub returns : goal.returns
returns c = record {
  contexts = λ text script h. (bounded 1 script (lines_of text) (made_by_lines text script h)).contexts;
  keys = λ text script h. (bounded 1 script (lines_of text) (made_by_lines text script h)).keys;
  rounds = λ text script h. (bounded 1 script (lines_of text) (made_by_lines text script h)).rounds;
  in_range = λ text script h. (bounded 1 script (lines_of text) (made_by_lines text script h)).strokes;
}
