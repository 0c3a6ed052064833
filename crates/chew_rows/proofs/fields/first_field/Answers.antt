-- The text is cut at the places that were found.
use Rattle.std.proofs.Common.{sym}
use Rattle.std.proofs.lemmas.List.{take_rest}
use Rattle.chew_rows.proofs.FirstField.{field_and_more, last_field, no_field}
use Rattle.chew_rows.proofs.fields.first_field.Goals as goal

pub returns-in_err-start-clause-none : goal.returns-in_err-start-clause-none
returns-in_err-start-clause-none c = rw c.from_residual.ensures (no_field c.args.text.now (sym c.in_err-start.ensures))

pub returns-in-Some-clause-some : goal.returns-in-Some-clause-some
returns-in-Some-clause-some c =
    simp take_rest (field_and_more c.args.text.now c.in_ok-start.start c.in-Some.place (sym c.in_ok-start.ensures) (sym (simp take_rest at c.in-Some.ensures)))

pub returns-in-None-clause-some : goal.returns-in-None-clause-some
returns-in-None-clause-some c =
    simp take_rest (last_field c.args.text.now c.in_ok-start.start (sym c.in_ok-start.ensures) (sym (simp take_rest at c.in-None.ensures)))
