-- A buffer has at most 39 cells, and its cursor stands among them.
use Rattle.std.proofs.Common.{ap, arith, length}
use Rattle.std.proofs.lemmas.List.{length-map}
use Rattle.chew_spec_preedit.proofs.IsBuffer.{IsBuffer-from}
use Rattle.chew_preedit.specs.CellItem.{cell_of}
use Rattle.chew_editor.proofs.move_keys.cell_count.Goals as goal

pub returns-clause-few : goal.returns-clause-few
returns-clause-few c =
    let h = IsBuffer-from c.args.preedit.now c.cells.ensures.valid in
    let few = h.few in
    let most = h.most in
    omega (arith, ap length c.cells.ensures.value, length-map c.cells.result.now cell_of)

pub overflow_cast-result : goal.overflow_cast-result
overflow_cast-result c =
    let h = IsBuffer-from c.args.preedit.now c.cells.ensures.valid in
    let few = h.few in
    let most = h.most in
    omega (arith, ap length c.cells.ensures.value, length-map c.cells.result.now cell_of)

pub returns-clause-cursor : goal.returns-clause-cursor
returns-clause-cursor c =
    let h = IsBuffer-from c.args.preedit.now c.cells.ensures.valid in
    let stands = h.stands in
    omega (arith, ap length c.cells.ensures.value, length-map c.cells.result.now cell_of)
