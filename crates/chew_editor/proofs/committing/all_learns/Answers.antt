-- An editor's pieces cover its cells.
use Rattle.std.proofs.Common.{subst, sym}
use Rattle.std.specs.List.{list_all}
use Rattle.std.proofs.Common.{◌≡◌, true, List}
use Rattle.chew_spec_phrasing.specs.Usable.{Piece}
use Rattle.chew_spec_editor.specs.Invariant.{covers, is_piece}
use Rattle.chew_spec_editor.proofs.Steady.{IsEditor-from}
use Rattle.chew_editor.specs.State.{state_of}
use Rattle.chew_editor.proofs.committing.all_learns.Goals as goal

pub learns-requires-clause-covered : goal.learns-requires-clause-covered
learns-requires-clause-covered g c =
    let state = state_of c.args.state.now in
    subst (λ (pieces : List Piece). covers state.buffer.cells pieces ≡ true) (sym c.deref.ensures.value) (IsEditor-from state c.requires).covered

pub learns-requires-clause-pieces : goal.learns-requires-clause-pieces
learns-requires-clause-pieces g c =
    let state = state_of c.args.state.now in
    subst (λ (pieces : List Piece). list_all is_piece pieces ≡ true) (sym c.deref.ensures.value) (IsEditor-from state c.requires).steady.pieces
