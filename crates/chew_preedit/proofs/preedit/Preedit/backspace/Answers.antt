-- The cells, and what is kept, are those of the definition.
use Rattle.std.proofs.Common.{◌≡◌, ◌-◌, ap, subst, sym, true, ◌∙◌, arith}
use Rattle.std.specs.List.{remove}
use Rattle.chew_spec_preedit.specs.Buffer.{Buffer, is_buffer}
use Rattle.chew_spec_preedit.proofs.Cut.{is_buffer-backspaced}
use Rattle.chew_preedit.specs.CellItem.{cell_of}
use Rattle.chew_preedit.proofs.Edits.{backspaced_is, cut_same}
use Rattle.chew_preedit.proofs.Rooms.{is_buffer-same}
use Rattle.chew_preedit.proofs.Stands.{stands-seen}
use Rattle.chew_preedit.proofs.preedit.Preedit.backspace.Goals as goal

pub kept-breaks-requires-clause-removed : goal.kept-breaks-requires-clause-removed
kept-breaks-requires-clause-removed c =
    let s = stands-seen cell_of c.args.self.now _ _ c.self.inside.cells.items _ _ c.self.view_is c.self.invariant in
    omega (arith, s.within, s.count_is, s.cursor_is, c.requires)

pub remove-cell-requires : goal.remove-cell-requires
remove-cell-requires c =
    let s = stands-seen cell_of c.args.self.now _ _ c.self.inside.cells.items _ _ c.self.view_is c.self.invariant in
    (omega arith, omega (arith, s.within, s.cursor_is, c.requires, c.from.ensures))

pub returns : goal.returns
returns c =
    cut_same cell_of c.args.self.now c.self.inside.limit (c.self.inside.cursor - 1) c.self.inside.cursor c.self.inside.cells.items c.remove-cell.new.self.items c.self.inside.breaks.items c.kept-breaks.result.breaks.items c.self.inside.choices.items c.kept-breaks.result.choices.items
    c.self.view_is (c.self.inside.cursor - 1) (c.remove-cell.ensures.items ∙ ap (λ at. remove c.self.inside.cells.items at) c.from.ensures)
    (record { breaks_are = c.kept-breaks.ensures.breaks; choices_are = c.kept-breaks.ensures.choices })
    ∙ backspaced_is c.args.self.now (c.self.inside.cursor - 1) (ap (λ (b : Buffer). b.cursor - 1) c.self.view_is)

pub invariant_of-self : goal.invariant_of-self
invariant_of-self c =
    subst (λ (b : Buffer). is_buffer b ≡ true) (sym (returns c))
    (is_buffer-backspaced c.args.self.now (is_buffer-same _ _ c.self.view_is c.self.invariant) c.requires)
