-- What is learnt of the cells that lead a buffer.
use Rattle.std.specs.Prelude.{◌≡◌, true, slice_get}
use Rattle.std.specs.Option.{option_map_or}
use Rattle.std.proofs.Common.{sym, subst}
use Rattle.std.proofs.lemmas.Bool.{cond-true}
use Rattle.chew_spec_phrasing.specs.Usable.{Piece, phrase_len}
use Rattle.chew_spec_preedit.specs.Cell.{has_sound}
use Rattle.chew_spec_editor.specs.Editor.{Editor}
use Rattle.chew_spec_editor.specs.Invariant.{is_editor}
use Rattle.chew_spec_editor.specs.Press.{leading_cells}
use Rattle.chew_spec_editor.proofs.Asking.{LeadSounds, lead-sounds}
use Rattle.chew_spec_editor.proofs.Steady.{IsEditor-from}

-- where a syllable leads the buffer, its piece stands over syllables
pub sounds-lead : (editor : Editor) → is_editor editor ≡ true → has_sound editor.buffer.cells 0 ≡ true → LeadSounds editor.buffer.cells (leading_cells editor)
sounds-lead editor e sound =
    let h = IsEditor-from editor e in
    let len = option_map_or (λ (piece : Piece). phrase_len piece.phrase) (slice_get editor.pieces 0) 1 in
    subst (LeadSounds editor.buffer.cells) (sym (cond-true (has_sound editor.buffer.cells 0) len 1 sound)) (lead-sounds editor.buffer.cells editor.pieces h.covered h.steady.pieces sound)
