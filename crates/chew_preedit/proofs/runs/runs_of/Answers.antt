-- By the run that the cells begin with, and those behind it.
use Rattle.std.proofs.Common.{◌≡◌, ◌-◌, List, ℕ, ap, drop, length, map, refl, sym, take, ◌∙◌, arith}
use Rattle.std.proofs.lemmas.List.{drop-map, length-map, take_rest}
use Rattle.chew_spec_preedit.specs.PlacedRun.{leading_codes, runs_of}
use Rattle.chew_preedit.specs.CellItem.{cell_of}
use Rattle.chew_preedit.specs.declared.cell_item.CellItem.{CellItem}
use Rattle.chew_preedit.proofs.RunSteps.{runs-all, runs-pushed, runs-skipped}
use Rattle.chew_preedit.proofs.runs.runs_of.Goals as goal
use Rattle.chew_preedit.proofs.runs.runs_of.Goals.{then-len-gt0, else-len-gt0}

is_leading : (cells : List CellItem) (place : ℕ) (codes : List ℕ) → codes ≡ leading_codes (map cell_of (take (length cells - place) (drop place cells))) → codes ≡ leading_codes (drop place (map cell_of cells))
is_leading cells place codes e =
    e ∙ (ap (λ (cs : List CellItem). leading_codes (map cell_of cs)) (take_rest cells place) ∙ ap leading_codes (sym (drop-map cell_of place cells)))

pub loop-place-preserved : goal.loop-place-preserved
loop-place-preserved c =
    let codes = c.leading_run-codes.result in
    let leading = is_leading c.args.cells.now c.loop-place.place codes c.leading_run-codes.ensures in
    let len : length c.list-len.result.now ≡ length codes = ap length c.list-len.ensures.value in
    elim c.if-len-gt0.branch [
      | then-len-gt0 w ↦ record {
        same = runs-pushed c.loop-place.place (map cell_of c.args.cells.now) codes _ c.loop-place.runs.items c.if-len-gt0.runs.items _ len leading (omega (arith, w.if-len-gt0.true)) (rw w.runs-is w.push.ensures.items) c.loop-place.invariant.same;
        few = rw w.runs-is (omega (arith, w.push.ensures.len, c.loop-place.invariant.few, w.if-len-gt0.true));
      }
      | else-len-gt0 w ↦ record {
        same = runs-skipped c.loop-place.place (map cell_of c.args.cells.now) codes _ c.loop-place.runs.items c.if-len-gt0.runs.items _ len leading (omega (arith, w.if-len-gt0.false)) (rw w.runs-is refl) c.loop-place.invariant.same;
        few = rw w.runs-is (omega (arith, c.loop-place.invariant.few));
      }
    ]

pub returns : goal.returns
unfolding runs_of
returns c = runs-all c.loop-place.place (map cell_of c.args.cells.now) c.loop-place.runs.items _ (omega (arith, length-map c.args.cells.now cell_of)) c.loop-place.invariant.same
