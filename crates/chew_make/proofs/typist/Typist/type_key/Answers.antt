-- A key was answered at once, or made calls.
use Rattle.std.proofs.Common.{◌≡◌, ◌∙◌, ap, sym}
use Rattle.chew_spec_editor.specs.Keys.{press}
use Rattle.chew_spec_editor.specs.Press.{Done, Ask}
use Rattle.chew_script.specs.Keys.{key_of}
use Rattle.chew_editor.specs.Pressed.{pressed_of}
use Rattle.chew_make.specs.Counts.{tally_of}
use Rattle.chew_make.proofs.Counting.{key_asked, key_done}
use Rattle.chew_make.proofs.typist.Typist.type_key.Goals as goal

pub returns-in_ok-commits-in-Ok-Done-clause-value : goal.returns-in_ok-commits-in-Ok-Done-clause-value
returns-in_ok-commits-in-Ok-Done-clause-value c =
    let done : Done c.in-Ok-Done.editor c.in-Ok-Done.line ≡ press c.args.system.now c.args.self.editor (key_of c.args.key) =
    sym (ap pressed_of c.in-Ok-Done.field-0-is) ∙ c.in-Ok-Done.ensures.ok in
    key_done c.args.system.now (tally_of c.args.self) _ c.in-Ok-Done.editor c.in-Ok-Done.line c.in_ok-commits-in-Ok-Done.commits done c.in_ok-commits-in-Ok-Done.ensures

pub returns-in-Ok-Ask-clause-value : goal.returns-in-Ok-Ask-clause-value
returns-in-Ok-Ask-clause-value c =
    let asked : Ask c.in-Ok-Ask.pending ≡ press c.args.system.now c.args.self.editor (key_of c.args.key) =
    sym (ap pressed_of c.in-Ok-Ask.field-0-is) ∙ c.in-Ok-Ask.ensures.ok in
    key_asked c.answer.result c.args.system.now (tally_of c.args.self) _ c.in-Ok-Ask.pending asked c.answer.ensures.editor c.answer.ensures.point c.answer.ensures.calls
    c.answer.ensures.commits
