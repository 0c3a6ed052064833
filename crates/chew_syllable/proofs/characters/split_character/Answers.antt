-- The first character comes off.
use Rattle.std.proofs.Common.{◌++◌, length, encode_utf8, sym, ap, ◌∙◌, arith}
use Rattle.std.proofs.lemmas.Str.{chars_past_char}
use Rattle.chew_syllable.proofs.Texts.{chars_none}
use Rattle.chew_syllable.proofs.characters.split_character.Goals as goal

pub returns-clause-some : goal.returns-clause-some
returns-clause-some c =
    chars_past_char c.args.text.now c.as_str.result.now c.in_ok-first.first c.utf8.text
    (sym c.chars-characters.ensures.rest ∙ (c.in_ok-first.ensures.steps.0 ∙ ap (λ xs. encode_utf8 c.in_ok-first.first ++ xs) (sym c.as_str.ensures)))

pub returns-in_err-first-clause-none : goal.returns-in_err-first-clause-none
returns-in_err-first-clause-none c =
    let same = ap length c.chars-characters.ensures.rest in
    let none = c.in_err-first.ensures.steps.0.0 in
    rw c.from_residual.ensures (chars_none c.args.text.now (omega arith))
