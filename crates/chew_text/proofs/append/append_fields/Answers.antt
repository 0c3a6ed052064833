-- The field that had no room is one of the fields, and the text before it begins with what was there.
use Rattle.std.proofs.Common.{ap, ◌∙◌, take, arith}
use Rattle.std.specs.List.{flat_map}
use Rattle.chew_text.proofs.Appended.{field_text, no_room}
use Rattle.chew_text.proofs.Fronts.{front_more}
use Rattle.chew_text.proofs.append.append_fields.Goals as goal

pub returns-in-Err-clause-err : goal.returns-in-Err-clause-err
returns-in-Err-clause-err c =
    c.truncate.ensures.items ∙ (ap (λ n. take n c.push_field.new.text.items) (c.len-had.ensures ∙ c.args.text.now.ok.0)
    ∙ front_more c.args.text.now.items c.loop-field.text.items (flat_map field_text (take c.loop-field.field-index c.args.fields.now)) c.push_field.new.text.items
    c.loop-field.invariant.items c.in-Err.ensures.err)

pub returns-in-Err-clause-room : goal.returns-in-Err-clause-room
returns-in-Err-clause-room c =
    no_room c.loop-field.field-index _ _ _ _ c.args.text.now.items c.loop-field.text.items c.args.fields.now _ (omega arith)
    c.loop-field.invariant.items c.args.text.now.ok.0 c.loop-field.text.ok.0 c.loop-field.invariant.grown c.in-Err.ensures.room
