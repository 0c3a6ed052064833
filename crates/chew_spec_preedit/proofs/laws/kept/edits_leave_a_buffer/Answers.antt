-- Edit by edit.
use Rattle.chew_spec_preedit.proofs.Cut.{is_buffer-backspaced, is_buffer-deleted, is_buffer-released}
use Rattle.chew_spec_preedit.proofs.Inserted.{is_buffer-inserted}
use Rattle.chew_spec_preedit.proofs.Marked.{is_buffer-break_toggled, is_buffer-chosen, is_buffer-empty, is_buffer-emptied, is_buffer-moved_to}
use Rattle.chew_spec_preedit.proofs.laws.kept.edits_leave_a_buffer.Goals as goal

pub returns : goal.returns
returns c = record {
  empty = is_buffer-empty;
  insert = is_buffer-inserted;
  delete = is_buffer-deleted;
  backspace = is_buffer-backspaced;
  move_to = is_buffer-moved_to;
  toggle = is_buffer-break_toggled;
  choose = is_buffer-chosen;
  release = is_buffer-released;
  emptied = is_buffer-emptied;
}
