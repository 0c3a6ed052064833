-- By the lines, taken one after another.
use Rattle.std.proofs.Common.{◌≤◌, ltb, [], length, map, sym, ap, ◌∙◌, arith}
use Rattle.std.specs.List.{flat_map}
use Rattle.chew_spec_text.specs.DictionaryText.{Size, dictionary_rows, fields_in, fields_of, system_limit, with_fields}
use Rattle.chew_spec_text.specs.Line.{with_line_feed}
use Rattle.chew_spec_text.specs.Lines.{lines_of, with_return}
use Rattle.chew_spec_text.proofs.Comments.{comment_cut}
use Rattle.chew_spec_text.proofs.EachLine.{by_parts}
use Rattle.chew_spec_text.proofs.Limited.{accepted, same_lines, same_counting}
use Rattle.chew_spec_text.proofs.Lines.{lines_back, returned_back, shorter}
use Rattle.chew_spec_text.proofs.Rows.{taken, nothing_said}
use Rattle.chew_spec_text.proofs.laws.dictionary_text.what_changes_no_row.Goals as goal

pub returns : goal.returns
unfolding dictionary_rows
returns c = record {
  returns = λ lines h e short.
      let plain = flat_map with_line_feed lines in
      let few : length plain ≤ system_limit = omega (arith, shorter lines) in
      same_lines system_limit Size taken [] (flat_map with_line_feed (map with_return lines)) plain short few
      (returned_back lines h ∙ sym (lines_back lines h e));
  comment = λ line comment. ap fields_in (comment_cut line comment);
  fields = λ text other short too same.
      accepted system_limit Size taken [] text short
      ∙ (by_parts fields_of with_fields 1 [] (lines_of text) (lines_of other) same ∙ sym (accepted system_limit Size taken [] other too));
  lines = λ text other short too same. same_counting (λ line. ltb 0 (length (fields_of line))) system_limit Size taken [] text other nothing_said short too same;
}
