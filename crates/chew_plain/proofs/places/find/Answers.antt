-- What stands at the place.
use Rattle.std.proofs.Common.{Some, ap, sym, ◌∙◌}
use Rattle.chew_plain.proofs.Standing.{found_there, lacked}
use Rattle.chew_plain.proofs.places.find.Goals as goal

pub returns-in-Ok : goal.returns-in-Ok
returns-in-Ok c = ap Some c.index-rows-place.is ∙ sym (found_there c.args.key.now c.args.phrase.now c.args.rows.now c.in-Ok.place c.index-rows-place.result c.requires.map c.in-Ok.ensures.ok)

pub returns-in-Err : goal.returns-in-Err
returns-in-Err c = sym (lacked c.args.key.now c.args.phrase.now c.args.rows.now c.in-Err.field-0 c.in-Err.ensures.err)
