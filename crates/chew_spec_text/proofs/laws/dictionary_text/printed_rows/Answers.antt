-- By the fields of each line.
use Rattle.std.proofs.Common.{arith}
use Rattle.chew_spec_text.proofs.Printing.{rows_read, row_again, row_too_many}
use Rattle.chew_spec_text.proofs.Short.{rows_short}
use Rattle.chew_spec_text.proofs.laws.dictionary_text.printed_rows.Goals as goal

pub returns : goal.returns
returns c = record { read = rows_read; short = λ rows h few. let bytes = rows_short rows h in omega arith; one_more = row_too_many; twice_first = row_again }
