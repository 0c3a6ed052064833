-- A key that rings changes nothing, and one that asks has a call.
use Rattle.std.specs.Prelude.{◌≡◌, ◌≢◌, ◌<◌, Bool, true, false, List, [], length, take, Option, Some, None, if◌then◌else◌}
use Rattle.std.specs.List.{list_any}
use Rattle.std.proofs.Common.{refl, ap, sym, subst, ◌∙◌}
use Rattle.std.proofs.lemmas.Bool.{false≢true}
use Rattle.chew_spec_syllable.specs.Row.{Row}
use Rattle.chew_spec_dictionary.specs.Call.{Reply}
use Rattle.chew_spec_preedit.specs.Window.{Window}
use Rattle.chew_spec_text.specs.KeyStroke.{KeyStroke}
use Rattle.chew_spec_text.specs.Line.{Line, Note, Bell}
use Rattle.chew_spec_text.specs.Line as line
use Rattle.chew_spec_layout.specs.Layout.{Layout}
use Rattle.chew_spec_editor.specs.Editor.{Editor, line_of}
use Rattle.chew_spec_editor.specs.Finish.{finish, is_full_reply, is_not_there, note_after}
use Rattle.chew_spec_editor.specs.Keys.{calls_asked, press}
use Rattle.chew_spec_editor.specs.Pending.{Pending, calls_of}
use Rattle.chew_spec_editor.specs.Press.{Done, Ask}
use Rattle.chew_spec_editor.specs.Rung.{layout_rung}
use Rattle.chew_spec_editor.proofs.Layouts.{left_by}
use Rattle.chew_spec_editor.proofs.Outcomes.{Outcome, commit_in, is_done, note_in, not-bell, is_quiet, outcome-plain, outcome-window}

pub after-plain : (system : List Row) (editor after : Editor) (key : KeyStroke) (line : Line) → editor.window ≡ None
    → press system editor key ≡ Done after line → line.note ≡ Bell → after ≡ record editor { layout = layout_rung editor key }
after-plain system editor after key line w d b =
    sym (ap left_by d) ∙ ((outcome-plain system editor key w).rung (ap note_in d ∙ b)).same

pub after-window : (system : List Row) (editor after : Editor) (key : KeyStroke) (line : Line) (window : Window) → editor.window ≡ Some window
    → press system editor key ≡ Done after line → line.note ≡ Bell → after ≡ editor
after-window system editor after key line window w d b =
    sym (ap left_by d) ∙ ((outcome-window system editor key window w).rung (ap note_in d ∙ b)).same

-- what holds of every key, with a window or without
any-outcome : (system : List Row) (editor : Editor) (key : KeyStroke) → (layout : Layout) × Outcome editor layout (press system editor key)
any-outcome system editor key = by_window editor.window refl
  where
    by_window : (window : Option Window) → editor.window ≡ window → (layout : Layout) × Outcome editor layout (press system editor key)
    by_window None e = (layout_rung editor key, outcome-plain system editor key e)
    by_window (Some window) e = (editor.layout, outcome-window system editor key window e)

pub commit-bell : (system : List Row) (editor after : Editor) (key : KeyStroke) (line : Line) → press system editor key ≡ Done after line → line.note ≡ Bell → line.commit ≡ []
commit-bell system editor after key line d b = sym (ap commit_in d) ∙ ((any-outcome system editor key).1.rung (ap note_in d ∙ b)).commit

pub some-calls : (system : List Row) (editor : Editor) (key : KeyStroke) (pending : Pending) → press system editor key ≡ Ask pending → 0 < length (calls_of pending)
some-calls system editor key pending d = subst (λ p. 0 < length (calls_asked p)) d ((any-outcome system editor key).1.calls (ap is_done d))

-- the replies never make a bell
note-quiet : (note : Note) (replies : List Reply) → (note ≡ Bell → ⊥) → note_after note replies ≡ Bell → ⊥
unfolding is_quiet
note-quiet note replies h e = by_full (list_any is_full_reply replies) (list_any is_not_there replies) e
  where
    by_full : (full missing : Bool) → (if full then line.Full else if missing then line.Missing else note) ≡ Bell → ⊥
    by_full true missing e = not-bell line.Full refl e
    by_full false true e = not-bell line.Missing refl e
    by_full false false e = h e

pub no-bell : (system : List Row) (editor : Editor) (key : KeyStroke) (pending : Pending) (replies : List Reply) → press system editor key ≡ Ask pending
    → (finish system pending replies).line.note ≢ Bell
unfolding finish line_of
no-bell system editor key pending replies d e =
    note-quiet pending.note (take (length pending.changes) replies)
    (λ b. false≢true (sym (ap is_done d) ∙ ((any-outcome system editor key).1.rung (ap note_in d ∙ b)).done)) e
