-- The row of what was read, and the cause where there is no key.
use Rattle.std.proofs.Common.{ℕ, List, length, chars, Ok, Err, ap, sym, ◌∙◌}
use Rattle.std.proofs.lemmas.Result.{err_from_is_err_and}
use Rattle.chew_spec_text.specs.DictionaryText.{fields_in}
use Rattle.chew_rows.specs.Faults.{cause_of}
use Rattle.chew_rows.proofs.Rows.{row_keyed, row_of_parts}
use Rattle.chew_rows.proofs.row_line.row_of.Goals as goal

pub returns-clause-ok : goal.returns-clause-ok
returns-clause-ok c =
    row_keyed c.args.phrase.now c.in-Some.digits.now c.in-Some.rest.now (fields_in c.args.rest.now) c.in-Some-read_freq.freq c.characters.result (Ok c.in_ok-key.key)
    c.in-Ok.ensures.valid c.in-Some.ensures.some (sym c.in-Some-read_freq.ensures) (c.characters.ensures.value ∙ ap (λ (p : List ℕ). length (chars p)) c.in-Ok.ensures.ok) c.in_ok-key.ensures.ok
    ∙ ap (λ (p : List ℕ). Ok (row_of_parts c.in_ok-key.key p c.in-Some-read_freq.freq)) (sym c.in-Ok.ensures.ok)

pub returns-in_err-key-clause-err : goal.returns-in_err-key-clause-err
returns-in_err-key-clause-err c =
    let p = err_from_is_err_and c.from_residual.result c.from_residual.ensures.1 in
    rw (p.1, p.2) (
    row_keyed c.args.phrase.now c.in-Some.digits.now c.in-Some.rest.now (fields_in c.args.rest.now) c.in-Some-read_freq.freq c.characters.result (Err (cause_of c.in_err-key.field-0.0))
    c.in-Ok.ensures.valid c.in-Some.ensures.some (sym c.in-Some-read_freq.ensures) (c.characters.ensures.value ∙ ap (λ (p : List ℕ). length (chars p)) c.in-Ok.ensures.ok) c.in_err-key.ensures.err
    )
