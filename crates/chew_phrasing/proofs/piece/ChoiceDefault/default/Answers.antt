-- 一 is a phrase.
use Rattle.std.proofs.Common.{refl}
use Rattle.std.specs.Char.{encode_utf8}
use Rattle.std.specs.Str.{chars, is_utf8}
use Rattle.chew_spec_syllable.specs.Phrase.{is_phrase}
use Rattle.chew_phrasing.proofs.piece.ChoiceDefault.default.Goals as goal

pub of-requires : goal.of-requires
unfolding is_phrase chars is_utf8 encode_utf8
of-requires c = refl
