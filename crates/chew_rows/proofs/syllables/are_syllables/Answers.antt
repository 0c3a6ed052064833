-- What the first field says of all.
use Rattle.std.proofs.Common.{sym, ap, ◌∙◌}
use Rattle.std.specs.Option.{is_some}
use Rattle.chew_rows.proofs.Keys.{some_code, no_code, no_codes}
use Rattle.chew_rows.proofs.syllables.are_syllables.Goals as goal

pub reading-preserved : goal.reading-preserved
reading-preserved c = c.reading.invariant ∙ some_code c.reading.rest.now c.in-Some.behind.now c.in-Some.field.now c.in-Ok.field-0 c.in-Some.ensures.some c.in-Ok.ensures.ok

pub returns-in-Err : goal.returns-in-Err
returns-in-Err c =
    sym (c.reading.invariant ∙ ap is_some (no_code c.reading.rest.now c.in-Some.behind.now c.in-Some.field.now c.in-Err.field-0.place c.in-Some.ensures.some c.in-Err.ensures.err))

pub returns : goal.returns
returns c = sym (c.reading.invariant ∙ ap is_some (no_codes c.reading.rest.now c.in_default.ensures.none))
