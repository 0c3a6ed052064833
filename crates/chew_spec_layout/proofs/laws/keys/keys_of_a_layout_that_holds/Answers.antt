-- Each value computes.
use Rattle.std.proofs.Common.{refl}
use lib.Utf8.{encode}
use Rattle.chew_spec_syllable.specs.SyllableText.{text_of}
use Rattle.chew_spec_layout.specs.Endings.{endings_a, endings_i, endings_u, endings_v, endings_yu, ending_bare}
use Rattle.chew_spec_layout.specs.Letters.{fed_letters, reading_of}
use Rattle.chew_spec_layout.specs.Pinyin.{fed_spelling}
use Rattle.chew_spec_layout.specs.Spellings.{alone, bare_initials, n_initials, palatal_initials, plain_initials, spelling_of, spellings}
use Rattle.chew_spec_layout.specs.Table.{fed}
use Rattle.chew_spec_layout.proofs.laws.keys.keys_of_a_layout_that_holds.Goals as goal

pub returns : goal.returns
unfolding text_of encode fed fed_letters reading_of fed_spelling spelling_of spellings alone endings_a endings_i endings_u endings_v endings_yu ending_bare plain_initials n_initials palatal_initials bare_initials
returns c = record {
  standard = refl;
  eten = refl;
  hsu = refl;
  et26 = refl;
  pinyin = refl;
}
