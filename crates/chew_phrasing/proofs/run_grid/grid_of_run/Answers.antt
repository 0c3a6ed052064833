-- One interval more, until all are filled.
use Rattle.std.proofs.Common.{[], ◌∷◌, ◌++◌, List, length, take, All, sym, ap, ◌∙◌, subst}
use Rattle.std.proofs.lemmas.List.{take_all, take_more}
use Rattle.std.proofs.lemmas.List.Elements.{All-nil}
use Rattle.chew_spec_dictionary.specs.Look.{Interval}
use Rattle.chew_spec_phrasing.specs.CombinedRows.{combined_hits}
use Rattle.chew_spec_phrasing.specs.Usable.{piece_at}
use Rattle.chew_phrasing.specs.FirstPlace.{IsKnown}
use Rattle.chew_phrasing.specs.Grid.{IsFilled}
use Rattle.chew_phrasing.proofs.Filled.{filled_all, filled_none, inside_of}
use Rattle.chew_phrasing.proofs.run_grid.grid_of_run.Goals as goal

pub loop-at-init : goal.loop-at-init
loop-at-init g c = record {
  cells = c.in_ok-grid.ensures.cells;
  firsts = subst (All (IsKnown (g.L.Lexicon.rows c.args.system.now))) (sym c.new-firsts.ensures.items) (All-nil (IsKnown (g.L.Lexicon.rows c.args.system.now)));
  filled = filled_none (piece_at (combined_hits (g.L.Lexicon.rows c.args.system.now) c.args.run.now c.args.user.now) c.args.breaks.now c.args.choices.now) (piece_at [] c.args.breaks.now c.args.choices.now) c.in_ok-grid.grid
      (c.in_ok-grid.ensures.grid c.args.breaks.now);
}

pub fill-requires-clause-inside : goal.fill-requires-clause-inside
fill-requires-clause-inside g c =
    inside_of c.as_slice-at-items.result.now c.in_ok-all.all.items c.loop-at.at-index (length c.args.run.now) c.loop-at.grid.cells c.at-item.result
    c.loop-at-test.true c.at-item.is c.as_slice-at-items.ensures.value c.loop-at.invariant.cells c.in_ok-all.ensures.each

pub fill-requires-clause-run : goal.fill-requires-clause-run
fill-requires-clause-run g c = c.loop-at.invariant.cells

pub fill-requires-clause-firsts : goal.fill-requires-clause-firsts
fill-requires-clause-firsts g c = c.loop-at.invariant.firsts

pub loop-at-preserved : goal.loop-at-preserved
loop-at-preserved g c = record {
  cells = c.in_ok-fill.ensures.cells ∙ c.loop-at.invariant.cells;
  firsts = c.in_ok-fill.ensures.firsts;
  filled = subst (λ (done : List Interval). IsFilled (piece_at (combined_hits (g.L.Lexicon.rows c.args.system.now) c.args.run.now c.args.user.now) c.args.breaks.now c.args.choices.now) (piece_at [] c.args.breaks.now c.args.choices.now) done c.fill.new.grid)
      (sym (take_more c.as_slice-at-items.result.now c.loop-at.at-index c.at-item.result c.loop-at-test.true
      ∙ ap (λ (at : Interval). take c.loop-at.at-index c.as_slice-at-items.result.now ++ (at ∷ [])) (sym c.at-item.is)))
      (c.in_ok-fill.ensures.filled (take c.loop-at.at-index c.as_slice-at-items.result.now) c.loop-at.invariant.filled);
}

pub returns-clause-grid : goal.returns-clause-grid
returns-clause-grid g c =
    filled_all (piece_at (combined_hits (g.L.Lexicon.rows c.args.system.now) c.args.run.now c.args.user.now) c.args.breaks.now c.args.choices.now) (piece_at [] c.args.breaks.now c.args.choices.now)
    (take c.loop-at.at-index c.as_slice-at-items.result.now) (length c.args.run.now) c.loop-at.grid c.loop-at.invariant.cells
    (take_all c.loop-at.at-index c.as_slice-at-items.result.now c.loop-at-test.false ∙ (c.as_slice-at-items.ensures.value ∙ c.in_ok-all.ensures.value)) c.loop-at.invariant.filled
