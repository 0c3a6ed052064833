-- A text was read.
use Rattle.std.proofs.Common.{refl}
use Rattle.chew_commands.proofs.Making.{input_given}
use Rattle.chew_commands.proofs.answer.read_input.Goals as goal

pub returns-in-Ok : goal.returns-in-Ok
returns-in-Ok g c =
    input_given (g.I.Source.left c.args.from.now) (g.I.Source.left c.read_up_to.new.source) (g.I.Source.faults c.args.from.now)
    (g.I.Source.faults c.read_up_to.new.source) c.in-Ok.text.items c.in-Ok.ensures.ok (c.in-Ok.ensures.cause.same refl)
