-- One entry more.
use Rattle.std.proofs.Common.{◌++◌, ◌∷◌, [], take, sym, ap, ◌∙◌, subst}
use Rattle.std.proofs.lemmas.List.{take_all, take_more}
use Rattle.chew_phrasing.specs.Grid.{piece_in}
use Rattle.chew_phrasing.specs.Table.{IsTop}
use Rattle.chew_phrasing.proofs.Merging.{Contains-at}
use Rattle.chew_phrasing.proofs.Topping.{IsBest-from_IsTop, IsTop-none, last_level, run_entry, some_entry}
use Rattle.chew_phrasing.proofs.ranking.best_entry.Goals as goal

pub bounds-entries-0 : goal.bounds-entries-0
bounds-entries-0 c =
    some_entry (piece_in c.args.grid.now) c.args.levels.now c.args.grid.now.cells c.entries-entries.result.now c.requires.possible.0
    (last_level (piece_in c.args.grid.now) c.args.levels.now c.args.grid.now.cells c.cells.result c.index-levels-cells.result c.entries-entries.result.now c.requires.all c.cells.ensures.value c.index-levels-cells.is c.entries-entries.ensures c.requires.table)
    c.requires.possible.1

pub loop-entry-init : goal.loop-entry-init
loop-entry-init c = record {
  one = run_entry (piece_in c.args.grid.now) c.args.levels.now c.args.grid.now.cells c.entries-entries.result.now c.index-entries-0.result
      (last_level (piece_in c.args.grid.now) c.args.levels.now c.args.grid.now.cells c.cells.result c.index-levels-cells.result c.entries-entries.result.now c.requires.all c.cells.ensures.value c.index-levels-cells.is c.entries-entries.ensures c.requires.table)
      (Contains-at c.entries-entries.result.now 0 c.index-entries-0.result (some_entry (piece_in c.args.grid.now) c.args.levels.now c.args.grid.now.cells c.entries-entries.result.now c.requires.possible.0 (last_level (piece_in c.args.grid.now) c.args.levels.now c.args.grid.now.cells c.cells.result c.index-levels-cells.result c.entries-entries.result.now c.requires.all c.cells.ensures.value c.index-levels-cells.is c.entries-entries.ensures c.requires.table) c.requires.possible.1) c.index-entries-0.is);
  top = IsTop-none (piece_in c.args.grid.now) c.args.levels.now c.args.grid.now.cells c.index-entries-0.result;
}

pub better-best-requires-clause-entry : goal.better-best-requires-clause-entry
better-best-requires-clause-entry c =
    run_entry (piece_in c.args.grid.now) c.args.levels.now c.args.grid.now.cells c.entries-entries.result.now c.entry-item.result
    (last_level (piece_in c.args.grid.now) c.args.levels.now c.args.grid.now.cells c.cells.result c.index-levels-cells.result c.entries-entries.result.now c.requires.all c.cells.ensures.value c.index-levels-cells.is c.entries-entries.ensures c.requires.table)
    (Contains-at c.entries-entries.result.now c.loop-entry.entry-index c.entry-item.result c.loop-entry-test.true c.entry-item.is)

pub loop-entry-preserved : goal.loop-entry-preserved
loop-entry-preserved c = record {
  one = c.better-best.ensures.one;
  top = subst (λ seen. IsTop (piece_in c.args.grid.now) c.args.levels.now c.args.grid.now.cells seen c.better-best.result)
      (sym (take_more c.entries-entries.result.now c.loop-entry.entry-index c.entry-item.result c.loop-entry-test.true
      ∙ ap (λ entry. take c.loop-entry.entry-index c.entries-entries.result.now ++ (entry ∷ [])) (sym c.entry-item.is)))
      (c.better-best.ensures.top (take c.loop-entry.entry-index c.entries-entries.result.now) c.loop-entry.invariant.top);
}

pub returns-clause-best : goal.returns-clause-best
returns-clause-best c = λ order stands.
    IsBest-from_IsTop (piece_in c.args.grid.now) c.args.levels.now c.args.grid.now.cells c.entries-entries.result.now c.loop-entry.best order
    (last_level (piece_in c.args.grid.now) c.args.levels.now c.args.grid.now.cells c.cells.result c.index-levels-cells.result c.entries-entries.result.now c.requires.all c.cells.ensures.value c.index-levels-cells.is c.entries-entries.ensures c.requires.table)
    (subst (λ seen. IsTop (piece_in c.args.grid.now) c.args.levels.now c.args.grid.now.cells seen c.loop-entry.best) (take_all c.loop-entry.entry-index c.entries-entries.result.now c.loop-entry-test.false) c.loop-entry.invariant.top)
    stands
