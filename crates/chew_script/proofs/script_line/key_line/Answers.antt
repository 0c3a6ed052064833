-- What the parts of a line say.
use Rattle.std.proofs.Common.{◌∙◌, sym}
use Rattle.chew_script.proofs.KeyLines.{no_colon, no_digits_line, no_number_line, number_line}
use Rattle.chew_script.proofs.script_line.key_line.Goals as goal

pub returns-then-not-is_number-clause-says : goal.returns-then-not-is_number-clause-says
returns-then-not-is_number-clause-says c =
    no_digits_line c.args.line.now c.in-Some.digits.now c.in-Some.keys.now c.in-Some.ensures.whole c.in-Some.ensures.first (sym c.is_number.ensures ∙ c.if-not-is_number.true)

pub returns-in-Some-context_number-clause-says : goal.returns-in-Some-context_number-clause-says
returns-in-Some-context_number-clause-says c =
    number_line c.args.line.now c.in-Some.digits.now c.in-Some.keys.now c.in-Some-context_number.number c.in-Some.ensures.whole c.in-Some.ensures.first (sym c.is_number.ensures ∙ c.if-not-is_number.false) (sym c.in-Some-context_number.ensures.value)

pub returns-in-None-context_number-clause-says : goal.returns-in-None-context_number-clause-says
returns-in-None-context_number-clause-says c =
    no_number_line c.args.line.now c.in-Some.digits.now c.in-Some.keys.now c.in-Some.ensures.whole c.in-Some.ensures.first (sym c.is_number.ensures ∙ c.if-not-is_number.false) (sym c.in-None-context_number.ensures.value)

pub returns-in-None-clause-says : goal.returns-in-None-clause-says
returns-in-None-clause-says c = sym (no_colon c.args.line.now c.in-None.ensures.none)
