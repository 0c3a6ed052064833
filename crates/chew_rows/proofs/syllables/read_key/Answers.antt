-- What each return says of the syllables.
use Rattle.std.proofs.Common.{sym, ap, ◌∙◌, Some, length, arith}
use Rattle.chew_rows.specs.Fields.{codes_of_text}
use Rattle.chew_rows.specs.Faults.{cause_of}
use Rattle.chew_rows.proofs.Keys.{one_code, no_code, no_codes, one_more, all_codes, key_bad, key_beyond, key_differs, key_is}
use Rattle.chew_rows.proofs.syllables.read_key.Goals as goal

pub reading-preserved : goal.reading-preserved
reading-preserved c =
    let here = one_code c.reading.rest.now c.in-Some.behind.now c.in-Some.field.now c.in-Ok.syllable c.in-Some.ensures.some c.in-Ok.ensures.ok in
    one_more c.reading.syllables.items c.try_push.new.self.items c.in-Ok.syllable (codes_of_text c.args.text.now) _ _ c.in-Ok-try_push.ensures.ok c.reading.invariant here

pub returns-in-Err-try_push-clause-err : goal.returns-in-Err-try_push-clause-err
returns-in-Err-try_push-clause-err c =
    let here = one_code c.reading.rest.now c.in-Some.behind.now c.in-Some.field.now c.in-Ok.syllable c.in-Some.ensures.some c.in-Ok.ensures.ok in
    key_beyond c.args.characters c.reading.syllables.items c.in-Ok.syllable (codes_of_text c.args.text.now) _ _ (cause_of c.cause_beyond.result) c.requires.few (omega (arith, c.in-Err-try_push.ensures.full)) c.reading.invariant here c.cause_beyond.ensures

pub returns-in-Err-clause-err : goal.returns-in-Err-clause-err
returns-in-Err-clause-err c =
    key_bad c.args.characters c.reading.syllables.items (codes_of_text c.args.text.now) _ c.reading.invariant
    (no_code c.reading.rest.now c.in-Some.behind.now c.in-Some.field.now c.in-Err.field-0.place c.in-Some.ensures.some c.in-Err.ensures.err)

pub returns-then-len-characters-clause-err : goal.returns-then-len-characters-clause-err
returns-then-len-characters-clause-err c =
    key_differs c.args.characters c.reading.syllables.items (codes_of_text c.args.text.now) (all_codes c.reading.syllables.items _ _ c.reading.invariant (no_codes c.reading.rest.now c.in_default.ensures.none))
    (λ same. c.if-len-characters.true (c.len.ensures.value ∙ same))

pub returns-clause-ok : goal.returns-clause-ok
returns-clause-ok c =
    let same = c.of_some.ensures ∙ c.as_slice.ensures.value in
    key_is c.args.characters c.of_some.result (codes_of_text c.args.text.now)
    (all_codes c.reading.syllables.items _ _ c.reading.invariant (no_codes c.reading.rest.now c.in_default.ensures.none) ∙ ap Some (sym same))
    (ap length same ∙ (sym c.len.ensures.value ∙ c.if-len-characters.false))
