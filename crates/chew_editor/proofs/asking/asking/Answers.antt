-- The key is done where it asks nothing, and else asks its changes and the runs.
use Rattle.std.proofs.Common.{IfOk, ap, eqb-true, length, map, subst, sym, ◌≡◌, ◌==◌, ◌∙◌}
use Rattle.std.proofs.lemmas.List.{length-map}
use Rattle.chew_spec_preedit.specs.PlacedRun.{runs_of}
use Rattle.chew_spec_editor.specs.Press.{Pressed, Ask}
use Rattle.chew_plain.specs.Call.{call_of}
use Rattle.chew_script.specs.Notes.{note_of}
use Rattle.chew_editor.specs.Outcome.{asked_by, outcome_of}
use Rattle.chew_editor.proofs.Nothing.{asking-nothing, asking-some, changes-first, is-asked_by, nothing-asked, some-asked}
use Rattle.chew_editor.proofs.asking.asking.Goals as goal

pub returns-then-is_empty-clause-ok : goal.returns-then-is_empty-clause-ok
returns-then-is_empty-clause-ok c system =
    let typing = c.args.typing in
    let changes = map call_of c.args.changes.calls.items in
    let note = note_of c.args.changes.note in
    let calls = c.in-Ok.calls.items in
    let none : length calls ≡ 0 =
    ap length (sym c.as_slice-in-Ok.ensures.value) ∙ eqb-true (length c.as_slice-in-Ok.result.now) 0 (sym c.is_empty.ensures ∙ c.if-is_empty.true) in
    let nothing = nothing-asked changes (map call_of calls) c.as_slice.result.now (runs_of typing.preedit.cells) c.in-Ok.ensures
    (c.as_slice.ensures.value ∙ c.runs-runs.ensures) (length-map calls call_of ∙ none) in
    subst (λ (p : Pressed). IfOk c.done.result (λ outcome. outcome_of outcome ≡ p))
    (sym (asking-nothing system typing changes c.args.changes.commit note nothing)) c.done.ensures.ok

pub returns-else-is_empty-clause-ok : goal.returns-else-is_empty-clause-ok
returns-else-is_empty-clause-ok c system =
    let typing = c.args.typing in
    let changes = map call_of c.args.changes.calls.items in
    let commit = c.args.changes.commit in
    let note = note_of c.args.changes.note in
    let calls = map call_of c.in-Ok.calls.items in
    let count = ap length c.as_slice-change_count.ensures.value ∙ sym (length-map c.args.changes.calls.items call_of) in
    let some = some-asked changes calls c.as_slice.result.now (runs_of typing.preedit.cells) c.in-Ok.ensures
    (c.as_slice.ensures.value ∙ c.runs-runs.ensures)
    (ap (λ n. n == 0) (length-map c.in-Ok.calls.items call_of) ∙ ap (λ cs. length cs == 0) (sym c.as_slice-in-Ok.ensures.value) ∙ sym c.is_empty.ensures ∙ c.if-is_empty.false) in
    ap Ask (is-asked_by typing c.new.result.items _ changes commit note c.new.ensures.items
    (changes-first changes calls c.as_slice.result.now (length c.as_slice-change_count.result.now) count c.in-Ok.ensures))
    ∙ sym (asking-some system (asked_by typing changes commit note) some)
