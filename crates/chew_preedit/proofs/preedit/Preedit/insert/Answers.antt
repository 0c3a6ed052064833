-- The cells, and what is kept, are those of the definition.
use Rattle.std.proofs.Common.{◌≡◌, ap, subst, sym, true, ◌∙◌, arith}
use Rattle.std.specs.List.{insert}
use Rattle.chew_spec_preedit.specs.Buffer.{Buffer, is_buffer}
use Rattle.chew_spec_preedit.proofs.Inserted.{is_buffer-inserted}
use Rattle.chew_preedit.specs.CellItem.{cell_of}
use Rattle.chew_preedit.proofs.Edits.{inserted_same}
use Rattle.chew_preedit.proofs.Rooms.{is_buffer-same}
use Rattle.chew_preedit.proofs.Stands.{room-stands, stands-seen}
use Rattle.chew_preedit.proofs.preedit.Preedit.insert.Goals as goal

pub kept-breaks-requires-clause-removed : goal.kept-breaks-requires-clause-removed
kept-breaks-requires-clause-removed c =
    let s = stands-seen cell_of c.args.self.now _ _ c.self.inside.cells.items _ _ c.self.view_is c.self.invariant in
    omega (arith, s.within, s.count_is)

pub insert-requires : goal.insert-requires
insert-requires c =
    let s = stands-seen cell_of c.args.self.now _ _ c.self.inside.cells.items _ _ c.self.view_is c.self.invariant in
    let room = room-stands c.args.self.now _ _ _ s c.requires.room in
    (omega arith, (omega (arith, s.within, c.from.ensures), omega (arith, s.most)))

pub overflow_add-self : goal.overflow_add-self
overflow_add-self c =
    let s = stands-seen cell_of c.args.self.now _ _ c.self.inside.cells.items _ _ c.self.view_is c.self.invariant in
    omega (arith, s.within, s.few, s.most)

pub returns : goal.returns
returns c =
    inserted_same cell_of c.args.self.now c.self.inside.limit c.self.inside.cursor c.self.inside.cells.items c.insert.new.self.items c.args.item c.self.inside.breaks.items c.kept-breaks.result.breaks.items c.self.inside.choices.items c.kept-breaks.result.choices.items
    c.self.view_is (c.insert.ensures.items ∙ ap (λ at. insert c.self.inside.cells.items at c.args.item) c.from.ensures)
    (record { breaks_are = c.kept-breaks.ensures.breaks; choices_are = c.kept-breaks.ensures.choices })

pub invariant_of-self : goal.invariant_of-self
invariant_of-self c =
    subst (λ (b : Buffer). is_buffer b ≡ true) (sym (returns c))
    (is_buffer-inserted c.args.self.now (cell_of c.args.item) (is_buffer-same _ _ c.self.view_is c.self.invariant) c.requires.room c.item_is_cell.ensures)
