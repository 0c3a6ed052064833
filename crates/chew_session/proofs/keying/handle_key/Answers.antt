-- The key was handled, or stopped.
use Rattle.std.proofs.Common.{◌≡◌, ◌∙◌, ap, sym}
use Rattle.chew_spec_dictionary.specs.History.{start_of}
use Rattle.chew_spec_editor.specs.Editor.{Editor}
use Rattle.chew_spec_editor.specs.Keys.{calls_asked, press}
use Rattle.chew_spec_editor.specs.Press.{Done, Ask}
use Rattle.chew_script.specs.Keys.{key_of}
use Rattle.chew_editor.specs.Pressed.{pressed_of}
use Rattle.chew_session.specs.Typing.{Asks}
use Rattle.chew_session.proofs.Turned.{asked, asks-none, done, on-err-from}
use Rattle.chew_session.proofs.keying.handle_key.Goals as goal

pub returns-in-Err-clause-err : goal.returns-in-Err-clause-err
returns-in-Err-clause-err g c =
    asks-none (start_of c.args.shared.now.start) c.args.pass.who (calls_asked (press (g.L.Lexicon.rows c.args.system.now) c.args.editor (key_of c.args.key))) c.args.pass.seen

pub returns-in-Ok-Done-clause-ok : goal.returns-in-Ok-Done-clause-ok
returns-in-Ok-Done-clause-ok g c =
    let is : Done c.in-Ok-Done.next c.in-Ok-Done.line ≡ press (g.L.Lexicon.rows c.args.system.now) c.args.editor (key_of c.args.key) =
    sym (ap pressed_of c.in-Ok-Done.field-0-is) ∙ c.in-Ok-Done.ensures.ok in
    done (g.L.Lexicon.rows c.args.system.now) (start_of c.args.shared.now.start) c.args.pass.who (key_of c.args.key) c.args.editor (λ (e : Editor). e) c.print.result
    c.in-Ok-Done.next c.in-Ok-Done.line c.args.pass.seen c.args.text.now.items c.press_with_room.new.text.items c.print.new.text.items is c.print.ensures.same
    c.press_with_room.ensures.kept c.print.ensures.ok

pub returns-in-Ok-Done-clause-err : goal.returns-in-Ok-Done-clause-err
returns-in-Ok-Done-clause-err g c =
    on-err-from (Asks (start_of c.args.shared.now.start) c.args.pass.who (calls_asked (press (g.L.Lexicon.rows c.args.system.now) c.args.editor (key_of c.args.key))) c.args.pass.seen c.args.pass.seen)
    c.print.result
    (asks-none (start_of c.args.shared.now.start) c.args.pass.who (calls_asked (press (g.L.Lexicon.rows c.args.system.now) c.args.editor (key_of c.args.key))) c.args.pass.seen)

pub returns-in-Ok-Ask-clause-ok : goal.returns-in-Ok-Ask-clause-ok
returns-in-Ok-Ask-clause-ok g c =
    let is : Ask c.in-Ok-Ask.pending ≡ press (g.L.Lexicon.rows c.args.system.now) c.args.editor (key_of c.args.key) =
    sym (ap pressed_of c.in-Ok-Ask.field-0-is) ∙ c.in-Ok-Ask.ensures.ok in
    asked (g.L.Lexicon.rows c.args.system.now) (start_of c.args.shared.now.start) c.args.pass.who (key_of c.args.key) c.args.editor (λ (e : Editor). e) c.answer.result.1
    c.in-Ok-Ask.pending c.args.pass.seen c.answer.result.0.seen c.args.text.now.items c.press_with_room.new.text.items c.answer.new.text.items is
    c.press_with_room.ensures.kept c.answer.ensures.ok
