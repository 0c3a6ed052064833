-- The row at the place is taken out, where one stands there.
use Rattle.std.proofs.Common.{◌∙◌}
use Rattle.chew_plain.proofs.Standing.{held_there, lacked_there}
use Rattle.chew_plain.proofs.places.take_out.Goals as goal

pub returns-in-Ok-clause-held : goal.returns-in-Ok-clause-held
returns-in-Ok-clause-held c = (held_there c.args.rows.now.items c.as_slice.result.now c.as_slice.ensures.value c.in-Ok.place c.args.key.now c.args.phrase.now c.requires.map c.in-Ok.ensures.ok).0

pub returns-in-Ok-clause-left : goal.returns-in-Ok-clause-left
returns-in-Ok-clause-left c = c.remove-gone.ensures.items ∙ (held_there c.args.rows.now.items c.as_slice.result.now c.as_slice.ensures.value c.in-Ok.place c.args.key.now c.args.phrase.now c.requires.map c.in-Ok.ensures.ok).1

pub returns-in-Err-clause-held : goal.returns-in-Err-clause-held
returns-in-Err-clause-held c = (lacked_there c.args.rows.now.items c.as_slice.result.now c.as_slice.ensures.value c.in-Err.field-0 c.args.key.now c.args.phrase.now c.in-Err.ensures.err).0

pub returns-in-Err-clause-left : goal.returns-in-Err-clause-left
returns-in-Err-clause-left c = (lacked_there c.args.rows.now.items c.as_slice.result.now c.as_slice.ensures.value c.in-Err.field-0 c.args.key.now c.args.phrase.now c.in-Err.ensures.err).1
