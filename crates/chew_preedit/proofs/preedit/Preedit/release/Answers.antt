-- The cells, and what is kept, are those of the definition.
use Rattle.std.proofs.Common.{◌≡◌, ap, drop, map, subst, sym, true, ◌∙◌, arith}
use Rattle.std.proofs.lemmas.List.{drop-map}
use Rattle.chew_spec_preedit.specs.Buffer.{Buffer, is_buffer}
use Rattle.chew_spec_preedit.proofs.Cut.{is_buffer-released}
use Rattle.chew_preedit.specs.CellItem.{cell_of}
use Rattle.chew_preedit.proofs.Edits.{released_same}
use Rattle.chew_preedit.proofs.Rooms.{is_buffer-same}
use Rattle.chew_preedit.proofs.preedit.Preedit.release.Goals as goal

pub returns : goal.returns
returns c =
    released_same c.args.self.now (map cell_of c.self.inside.cells.items) c.self.inside.limit c.args.count c.self.inside.cursor c.self.inside.breaks.items c.kept-breaks.result.breaks.items c.self.inside.choices.items c.kept-breaks.result.choices.items
    (map cell_of c.cells_behind-cells.result.items) c.saturating_sub-self-inside.result
    c.self.view_is (is_buffer-same _ _ c.self.view_is c.self.invariant)
    (ap (map cell_of) (c.cells_behind-cells.ensures ∙ ap (drop c.args.count) c.as_slice.ensures.value) ∙ sym (drop-map cell_of c.args.count c.self.inside.cells.items))
    c.saturating_sub-self-inside.ensures
    (record { breaks_are = c.kept-breaks.ensures.breaks; choices_are = c.kept-breaks.ensures.choices })

pub invariant_of-self : goal.invariant_of-self
invariant_of-self c =
    subst (λ (b : Buffer). is_buffer b ≡ true) (sym (returns c))
    (is_buffer-released c.args.self.now c.args.count (is_buffer-same _ _ c.self.view_is c.self.invariant) c.requires)
