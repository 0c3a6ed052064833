-- A character takes at most four bytes, and the characters of their text are those again.
use Rattle.std.proofs.Common.{ap, length, sym, ◌∙◌, arith, false}
use Rattle.std.proofs.lemmas.Str.{chars_from_encodes}
use Rattle.unicode_width.specs.Width.{str_width}
use Rattle.chew_editor.proofs.Encoded.{length-encodes-le}
use Rattle.chew_editor.proofs.line.column_of.Goals as goal

pub width_of-requires : goal.width_of-requires
width_of-requires c =
    omega (arith, ap length c.as_str.ensures.value, ap length c.in_ok-text.ensures, length-encodes-le c.args.front.now, c.requires)

pub returns : goal.returns
returns c =
    c.width_of.ensures.value
    ∙ ap (str_width false) (sym (chars_from_encodes c.args.front.now c.as_str.result.now c.width_of.ensures.utf8 (sym (c.as_str.ensures.value ∙ c.in_ok-text.ensures))))
