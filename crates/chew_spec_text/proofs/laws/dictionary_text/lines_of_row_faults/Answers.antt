-- By the lines, taken one after another.
use Rattle.std.proofs.Common.{leb, length, [], refl}
use Rattle.chew_spec_text.specs.DictionaryText.{Size, dictionary_rows, system_limit}
use Rattle.chew_spec_text.proofs.Limited.{refused, whole, sized, at_most, later}
use Rattle.chew_spec_text.proofs.RowFaults.{never_size}
use Rattle.chew_spec_text.proofs.Rows.{taken}
use Rattle.chew_spec_text.proofs.laws.dictionary_text.lines_of_row_faults.Goals as goal

pub returns : goal.returns
unfolding dictionary_rows
returns c = record {
  too_long = refused system_limit Size taken [];
  whole = λ text fault h zero_is. whole (leb (length text) system_limit) Size taken [] text fault h zero_is;
  size = λ text fault h is. sized (leb (length text) system_limit) system_limit Size taken [] text fault refl never_size h is;
  at_most = λ text fault h. at_most (leb (length text) system_limit) Size taken [] text fault h;
  later = λ text other fault h low short same. later (leb (length text) system_limit) system_limit Size taken [] text other fault h low short same;
}
