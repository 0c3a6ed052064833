-- The generated script is read, and has no fault.
use Rattle.std.proofs.Common.{◌∙◌, Err, ap}
use Rattle.chew_script.specs.Faults.{cause_of}
use Rattle.chew_make.proofs.Making.{script_given, script_sound}
use Rattle.chew_make.proofs.script.generated_script.Goals as goal

pub returns-in-Ok : goal.returns-in-Ok
returns-in-Ok c =
    script_given c.args.number c.as_slice.result.now c.in-Ok.script c.in-Ok.ensures.ok (c.as_slice.ensures.value ∙ c.in_ok-text.ensures)

pub unreachable-requires : goal.unreachable-requires
unreachable-requires c =
    script_sound c.args.number c.as_slice.result.now (record { line = c.in-Err-Bad.field-0-0; cause = cause_of c.in-Err-Bad.field-0-1 })
    (c.read_script.ensures.bad c.in-Err-Bad.field-0-0 c.in-Err-Bad.field-0-1 (c.in-Err-Bad.is ∙ ap Err c.in-Err-Bad.field-0-is))
    (c.as_slice.ensures.value ∙ c.in_ok-text.ensures)
