-- The marks are a spelling's, whose text is read as a syllable.
use Rattle.std.proofs.Common.{length, ap, ◌∙◌, arith, length-append}
use Rattle.chew_spec_syllable.specs.SyllableText.{code_reading}
use Rattle.chew_layout_pinyin.proofs.Text.{marks_found, with_tone, pushed}
use Rattle.chew_layout_pinyin.proofs.turn.syllable_of.Goals as goal

pub push_str-requires : goal.push_str-requires
push_str-requires c =
    let m = marks_found c.args.letters.now _ c.in_ok-initial.ensures in
    let n = length-append c.in_ok-initial.initial.now c.in_ok-initial.ending.now in
    (omega arith, omega (arith, m.short, ap length c.new-marks.ensures))

pub push_str-requires-2 : goal.push_str-requires-2
push_str-requires-2 c =
    let m = marks_found c.args.letters.now _ c.in_ok-initial.ensures in
    let n = length-append c.in_ok-initial.initial.now c.in_ok-initial.ending.now in
    (omega arith, omega (arith, m.short, c.push_str.ensures.len, ap length c.new-marks.ensures))

pub returns-in-Ok : goal.returns-in-Ok
returns-in-Ok c =
    let m = marks_found c.args.letters.now _ c.in_ok-initial.ensures in
    let text = pushed c.in_ok-initial.initial.now c.in_ok-initial.ending.now c.new-marks.ensures c.push_str.ensures.bytes c.push_str-2.ensures.bytes c.as_str.ensures.value c.as_bytes.ensures.value in
    with_tone _ _ c.args.tone _ c.in-Ok.syllable m c.requires (ap code_reading text ∙ c.in-Ok.ensures.ok) (c.of.view_is ∙ c.parts.ensures.value) c.of-in-Ok.result c.of-in-Ok.ensures

pub returns-in-Err : goal.returns-in-Err
returns-in-Err c =
    let m = marks_found c.args.letters.now _ c.in_ok-initial.ensures in
    let text = pushed c.in_ok-initial.initial.now c.in_ok-initial.ending.now c.new-marks.ensures c.push_str.ensures.bytes c.push_str-2.ensures.bytes c.as_str.ensures.value c.as_bytes.ensures.value in
    absurd (cc (m.reading, text, c.in-Err.ensures.err))
