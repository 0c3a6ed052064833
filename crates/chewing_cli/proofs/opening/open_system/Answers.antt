-- The bytes that were read are the system's.
use Rattle.std.proofs.Common.{refl}
use Rattle.chew_spec_text.specs.DictionaryText.{system_limit}
use Rattle.chew_spec_program.specs.Opening.{system_rows}
use Rattle.chewing_cli.specs.Opens.{rows_of}
use Rattle.chewing_cli.specs.Refusals.{outcome_of}
use Rattle.chewing_cli.proofs.Reading.{reads_text}
use Rattle.chewing_cli.proofs.opening.open_system.Goals as goal

pub returns-in-Ok : goal.returns-in-Ok
returns-in-Ok g c =
    reads_text system_rows system_limit (g.Y.Source.left c.args.source.now) (g.Y.Source.left c.read_up_to.new.source)
    (g.Y.Source.faults c.args.source.now) (g.Y.Source.faults c.read_up_to.new.source) c.in-Ok.bytes.items (outcome_of rows_of c.system_of.result)
    c.in-Ok.ensures.ok (c.in-Ok.ensures.cause.same refl)
    c.system_of.ensures
