-- The line's row is the one that is added.
use Rattle.std.proofs.Common.{List, Result, subst}
use Rattle.std.specs.Prelude.{IfErr}
use Rattle.chew_spec_syllable.specs.Row.{Row}
use Rattle.chew_spec_text.specs.DictionaryText as spec
use Rattle.chew_rows.specs.Faults.{IsFaultOfLine}
use Rattle.chew_rows.proofs.Rows.{line_row}
use Rattle.chew_rows.proofs.line_reader.read_line.Goals as goal

pub returns-in-Ok-clause-bad : goal.returns-in-Ok-clause-bad
returns-in-Ok-clause-bad c =
    subst (λ (found : Result (List Row) spec.RowCause). IfErr c.add_row.result (λ fault. IsFaultOfLine c.args.number found fault))
    (line_row c.args.rows.now.items c.args.line.now c.before_comment.result.now c.in-Some.phrase.now c.in-Some.rest.now c.in-Ok.row c.before_comment.ensures c.in-Some.ensures.some c.in-Ok.ensures.ok)
    c.add_row.ensures.bad
