-- One row more.
use Rattle.std.proofs.Common.{ℕ, ◌∙◌, eqb, sym, ap, arith, refl, List}
use Rattle.std.proofs.lemmas.Result.{err_from_is_err_and}
use Rattle.chew_spec_image.specs.Fields.{row_at}
use Rattle.chew_spec_image.specs.ReadRows.{RowsRead, past_row}
use Rattle.chew_trie_image.proofs.Steps.{rows_fail, rows_pass}
use Rattle.chew_trie_image.proofs.walk.check_rows.Goals as goal

pub returns-in_err-check_row-clause-err : goal.returns-in_err-check_row-clause-err
returns-in_err-check_row-clause-err c =
    let p = err_from_is_err_and c.from_residual.result c.from_residual.ensures.1 in
    rw (p.1, p.2) (λ key later seen long few.
    let place = ap (λ (r : RowsRead). r.place) c.read.view_is in
    c.loop-i.invariant.same key later seen long few
    ∙ rows_fail c.args.parts.now.bytes.now c.args.parts.now.counts key c.args.count c.loop-i.i seen c.loop-i.read later c.text.result.now c.row_at-row.result c.args.len (eqb c.loop-i.i 0) c.in_err-check_row.field-0.0.place
    c.loop-i-test.true few c.text.ensures.value (c.row_at-row.ensures ∙ ap (row_at c.args.parts.now.bytes.now) place) long refl c.in_err-check_row.ensures.err
    )

pub loop-i-preserved : goal.loop-i-preserved
loop-i-preserved c =
    let place = ap (λ (r : RowsRead). r.place) c.read.view_is in
    let same_text = c.text-in-loop-i.ensures.value ∙ sym c.text.ensures.value in
    let after = c.read-in-loop-i.view_is ∙ c.past.ensures ∙ ap (λ (text : List ℕ). past_row text c.loop-i.read c.row_at-row.result) same_text in
    record {
      place = let e = ap (λ (r : RowsRead). r.place) after in let i = c.loop-i.invariant.place in omega arith;
      same = λ key later seen long few. c.loop-i.invariant.same key later seen long few
          ∙ rows_pass c.args.parts.now.bytes.now c.args.parts.now.counts key c.args.count c.loop-i.i seen c.loop-i.read later c.text.result.now c.row_at-row.result c.args.len (eqb c.loop-i.i 0) _
          c.loop-i-test.true few c.text.ensures.value (c.row_at-row.ensures ∙ ap (row_at c.args.parts.now.bytes.now) place) long refl c.in_ok-check_row.ensures.ok after;
    }
