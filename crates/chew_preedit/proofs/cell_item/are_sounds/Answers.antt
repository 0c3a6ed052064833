-- The cells of a part are the part of the cells.
use Rattle.std.proofs.Common.{◌-◌, List, ap, drop, map, sym, take, ◌∙◌}
use Rattle.std.specs.List.{list_all}
use Rattle.std.proofs.lemmas.List.{drop-map, take-map}
use Rattle.std.proofs.lemmas.List.Folds.{list_all-map}
use Rattle.chew_spec_preedit.specs.Cell.{Cell, is_sound}
use Rattle.chew_preedit.specs.CellItem.{cell_of}
use Rattle.chew_preedit.proofs.cell_item.are_sounds.Goals as goal

pub returns : goal.returns
returns c =
    let start = c.args.start in
    let len = c.args.end - c.args.start in
    c.all_are_sounds.ensures
    ∙ (sym (list_all-map is_sound cell_of (take len (drop start c.args.cells.now)))
    ∙ ap (list_all is_sound) (sym (ap (take len) (drop-map cell_of start c.args.cells.now) ∙ take-map cell_of len (drop start c.args.cells.now))))
