-- Each step gives its part of what the definition says.
use Rattle.std.proofs.Common.{◌≡◌, ◌-◌, List, ap, length, map, refl, subst, sym, take, drop, ◌∙◌}
use Rattle.std.specs.Prelude.{option_and_then}
use Rattle.std.proofs.lemmas.Result.{IfOk-at_ok}
use Rattle.chew_spec_phrasing.specs.Usable.{Piece}
use Rattle.chew_spec_editor.specs.Editor.{line_of}
use Rattle.chew_spec_editor.specs.Finish.{finish, note_after, window_at}
use Rattle.chew_spec_editor.specs.Pending.{Pending, calls_of, runs_asked}
use Rattle.chew_plain.specs.Call.{call_of, reply_of}
use Rattle.chew_script.specs.Notes.{note_of}
use Rattle.chew_editor.specs.Phrasable.{ArePhrasable}
use Rattle.chew_editor.specs.State.{editor_of, state_of}
use Rattle.chew_editor.proofs.FinishedState.{changed-are, changed-count, finished-editor, finished-line, least, looked-are}
use Rattle.chew_editor.proofs.finishing.finished.Goals as goal

pub phrased-requires : goal.phrased-requires
phrased-requires g c =
    let system = g.L.Lexicon.rows c.args.system.now in
    let inside = c.asked.inside in
    let replies = c.args.replies.now in
    let calls = map call_of inside.calls.items in
    let len = changed-count inside.change_count (length replies) c.min-count.result (take inside.change_count calls) calls refl
    (c.requires.one_each ∙ (ap (λ (p : Pending). length (calls_of p)) (sym c.asked.view_is) ∙ ap length (sym c.asked.invariant)))
    (c.min-count.ensures ∙ least inside.change_count (length replies)) in
    let concrete = subst (λ (p : Pending). ArePhrasable system p.editor.buffer (runs_asked p) (drop (length p.changes) (map reply_of replies))) (sym c.asked.view_is) c.requires.runs in
    subst (λ rs. ArePhrasable system inside.state.typing.preedit rs (map reply_of (take (length replies - c.min-count.result) (drop c.min-count.result replies))))
    (sym (c.as_slice-runs.ensures.value ∙ c.runs_asked-asked_runs.ensures))
    (subst (ArePhrasable system inside.state.typing.preedit _) (sym (looked-are reply_of replies c.min-count.result (length (take inside.change_count calls)) len)) concrete)

pub returns-clause-state : goal.returns-clause-state
returns-clause-state g c =
    let system = g.L.Lexicon.rows c.args.system.now in
    let inside = c.asked.inside in
    let replies = c.args.replies.now in
    let calls = map call_of inside.calls.items in
    let runs = c.as_slice-runs.result.now in
    let looked = map reply_of (take (length replies - c.min-count.result) (drop c.min-count.result replies)) in
    let len = changed-count inside.change_count (length replies) c.min-count.result (take inside.change_count calls) calls refl
    (c.requires.one_each ∙ (ap (λ (p : Pending). length (calls_of p)) (sym c.asked.view_is) ∙ ap length (sym c.asked.invariant)))
    (c.min-count.ensures ∙ least inside.change_count (length replies)) in
    subst (λ (p : Pending). editor_of inside.state.typing c.in_ok-pieces.pieces.items c.in_ok-window.window ≡ (finish system p (map reply_of replies)).editor) c.asked.view_is
    (finished-editor system (state_of inside.state) (take inside.change_count calls) inside.commit (note_of inside.note) inside.opens (map reply_of replies)
    looked runs c.in_ok-pieces.pieces.items c.in_ok-window.window
    (c.as_slice-runs.ensures.value ∙ c.runs_asked-asked_runs.ensures) (looked-are reply_of replies c.min-count.result (length (take inside.change_count calls)) len)
    c.in_ok-pieces.ensures
    (IfOk-at_ok (λ window. window ≡ option_and_then (window_at system (state_of inside.state) runs looked) inside.opens) c.in_ok-window.was
    (c.window_opened.ensures inside.state.pieces.items inside.state.window)))

pub returns-clause-line : goal.returns-clause-line
returns-clause-line g c =
    let system = g.L.Lexicon.rows c.args.system.now in
    let inside = c.asked.inside in
    let replies = c.args.replies.now in
    let calls = map call_of inside.calls.items in
    let own = note_of c.note_after-note.result in
    let after = editor_of inside.state.typing c.deref.result.now c.in_ok-window.window in
    let len = changed-count inside.change_count (length replies) c.min-count.result (take inside.change_count calls) calls refl
    (c.requires.one_each ∙ (ap (λ (p : Pending). length (calls_of p)) (sym c.asked.view_is) ∙ ap length (sym c.asked.invariant)))
    (c.min-count.ensures ∙ least inside.change_count (length replies)) in
    finished-line system c.args.asked after own (map reply_of replies) c.in_ok-line.line
    (ap (λ (pieces : List Piece). editor_of inside.state.typing pieces c.in_ok-window.window) c.deref.ensures.value ∙ returns-clause-state g c)
    (subst (λ (p : Pending). note_of c.note_after-note.result ≡ note_after p.note (take (length p.changes) (map reply_of replies))) c.asked.view_is
    (c.note_after-note.ensures ∙ ap (note_after (note_of inside.note)) (changed-are reply_of replies c.min-count.result (length (take inside.change_count calls)) len)))
    (subst (λ (p : Pending). c.in_ok-line.line ≡ line_of (editor_of inside.state.typing c.deref.result.now c.in_ok-window.window) p.commit (note_of c.note_after-note.result)) c.asked.view_is c.in_ok-line.ensures)
