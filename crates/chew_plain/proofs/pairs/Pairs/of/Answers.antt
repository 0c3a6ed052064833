-- The sorted rows are put in one after the other.
use Rattle.std.proofs.Common.{◌≡◌, ◌+◌, true, List, length, take, ap, ap₂, ◌∙◌, arith}
use Rattle.std.proofs.lemmas.List.{length-take, take_all}
use Rattle.chew_spec_syllable.specs.Row.{Row}
use Rattle.chew_spec_dictionary.specs.Dictionary.{is_map, put_row}
use Rattle.chew_spec_dictionary.proofs.Once.{map_of_rows}
use Rattle.chew_plain.proofs.Standing.{next_row}
use Rattle.chew_plain.proofs.pairs.Pairs.of.Goals as goal

pub put-requires : goal.put-requires
put-requires c =
    let slice = c.as_slice-row-items.result.now in
    let map : is_map slice ≡ true = ap is_map (c.as_slice-row-items.ensures.value ∙ c.in_ok-sort_rows.ensures.ok) ∙ map_of_rows c.args.rows.items c.requires.pairs in
    let step : put_row c.copy.result c.loop-row.pairs ≡ take (c.loop-row.row-index + 1) slice =
    ap₂ (λ (r : Row) (l : List Row). put_row r l) c.copy.ensures c.loop-row.invariant
    ∙ next_row slice c.loop-row.row-index c.row-item.result map (omega (arith, c.loop-row-test.true)) c.row-item.is in
    record {
      room = omega (arith, ap length step, length-take (c.loop-row.row-index + 1) slice, ap length c.as_slice-row-items.ensures.value, c.sort_rows.ensures.len, c.requires.few);
    }

pub loop-row-preserved : goal.loop-row-preserved
loop-row-preserved c =
    let slice = c.as_slice-row-items.result.now in
    let map : is_map slice ≡ true = ap is_map (c.as_slice-row-items.ensures.value ∙ c.in_ok-sort_rows.ensures.ok) ∙ map_of_rows c.args.rows.items c.requires.pairs in
    let step : put_row c.copy.result c.loop-row.pairs ≡ take (c.loop-row.row-index + 1) slice =
    ap₂ (λ (r : Row) (l : List Row). put_row r l) c.copy.ensures c.loop-row.invariant
    ∙ next_row slice c.loop-row.row-index c.row-item.result map (omega (arith, c.loop-row-test.true)) c.row-item.is in
    c.in_ok-put.ensures.ok ∙ step

pub returns-clause-map : goal.returns-clause-map
returns-clause-map c =
    let slice = c.as_slice-row-items.result.now in
    let map : is_map slice ≡ true = ap is_map (c.as_slice-row-items.ensures.value ∙ c.in_ok-sort_rows.ensures.ok) ∙ map_of_rows c.args.rows.items c.requires.pairs in
    ap is_map (c.loop-row.invariant ∙ take_all c.loop-row.row-index slice (omega (arith, c.loop-row-test.false))) ∙ map
