-- What a stretch has of the cells.
use Rattle.std.proofs.Common.{◌-◌, ◌≡◌, ◌++◌, ap, ap₂, map, subst, sym, ◌∙◌}
use Rattle.std.specs.Result.{OnOk}
use Rattle.chew_plain.specs.Call.{call_of}
use Rattle.chew_preedit.specs.CellItem.{cell_of}
use Rattle.chew_editor.specs.Spans.{ArePairs, learns_in, part_in}
use Rattle.chew_editor.proofs.LearnSteps.{mapped-part}
use Rattle.chew_editor.proofs.learning.push_stretch.Goals as goal

pub push_parts-requires : goal.push_parts-requires
push_parts-requires g c =
    let stretch = c.args.stretch in
    let cells = c.args.cells.now in
    subst (λ cs. ArePairs cs c.part-2.result.now)
    (sym (ap (map cell_of) c.part.ensures ∙ mapped-part cell_of stretch.start (stretch.end - stretch.start) cells))
    (subst (ArePairs (part_in stretch (map cell_of cells))) (sym c.part-2.ensures) c.requires.pairs)

pub returns : goal.returns
returns g c =
    let system = g.L.Lexicon.rows c.args.system.now in
    let stretch = c.args.stretch in
    let cells = c.args.cells.now in
    subst (λ learns. OnOk c.push_parts.result (map call_of c.push_parts.new.calls.items ≡ map call_of c.args.calls.now.items ++ learns))
    (ap₂ (learns_in system) (ap (map cell_of) c.part.ensures ∙ mapped-part cell_of stretch.start (stretch.end - stretch.start) cells) c.part-2.ensures)
    c.push_parts.ensures
