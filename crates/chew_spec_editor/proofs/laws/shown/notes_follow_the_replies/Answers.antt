use Rattle.chew_spec_editor.proofs.Phrasing.{note-finish, note-full, note-missing, note-said}
use Rattle.chew_spec_editor.proofs.laws.shown.notes_follow_the_replies.Goals as goal

pub returns : goal.returns
returns c = record { full = note-full; missing = note-missing; said = note-said; of_changes = note-finish }
