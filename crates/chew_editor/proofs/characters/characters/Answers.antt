-- One cell more, until all are there.
use Rattle.chew_spec_preedit.specs.ShownText.{characters_of}
use Rattle.chew_preedit.specs.CellItem.{cell_of}
use Rattle.chew_editor.proofs.Adding.{characters-all, characters-more}
use Rattle.chew_editor.proofs.characters.characters.Goals as goal

pub loop-place-preserved : goal.loop-place-preserved
loop-place-preserved c =
    characters-more cell_of c.args.pieces.now c.loop-place.place c.args.cells.now c.loop-place.characters.items _ _ c.index-cells-place.result
    c.loop-place-test.true c.index-cells-place.is c.in_ok-push_character.ensures c.loop-place.invariant

pub returns : goal.returns
unfolding characters_of
returns c =
    characters-all cell_of c.args.pieces.now c.loop-place.place c.args.cells.now c.loop-place.characters.items _ c.loop-place-test.false c.loop-place.invariant
