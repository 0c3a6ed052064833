-- What each return says of the text.
use Rattle.std.proofs.Common.{ℕ, List, [], length, ap, sym, subst, arith}
use Rattle.chew_spec_syllable.specs.Row.{Row}
use Rattle.chew_spec_text.specs.DictionaryText.{dictionary_rows}
use Rattle.chew_spec_text.specs.Lines.{lines_of}
use Rattle.chew_text.proofs.LinesTaken.{all_taken, few_lines, leaves_all}
use Rattle.chew_rows.specs.Lines.{taken}
use Rattle.chew_rows.specs.Pairs.{HasPairsOf}
use Rattle.chew_rows.proofs.Pairs.{no_pairs}
use Rattle.chew_rows.proofs.Text.{text_lines}
use Rattle.chew_rows.proofs.line_reader.rows_by_line.Goals as goal

pub lines-init : goal.lines-init
lines-init c = record {
  read = leaves_all taken (dictionary_rows c.args.text.now) [] c.new-rows.result.items c.of-lines.result (lines_of c.args.text.now)
      (text_lines c.args.text.now (omega arith)) c.new-rows.ensures.items c.of-lines.ensures;
  counted = omega (arith, few_lines c.args.text.now, ap (λ (lines : List (List ℕ)). length lines) c.of-lines.ensures);
  pairs = subst (λ (rows : List Row). HasPairsOf rows c.new-pairs.result) (sym c.new-rows.ensures.items) (no_pairs c.new-pairs.result c.new-pairs.ensures.empty);
}

pub returns-clause-ok : goal.returns-clause-ok
returns-clause-ok c = all_taken taken (dictionary_rows c.args.text.now) c.lines.number c.lines.rows.items c.lines.lines c.lines.invariant.read c.in_default.ensures.none
