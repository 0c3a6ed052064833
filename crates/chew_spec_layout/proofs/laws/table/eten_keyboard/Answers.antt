-- Each value computes.
use Rattle.std.proofs.Common.{refl}
use lib.Utf8.{encode}
use Rattle.chew_spec_syllable.specs.SyllableText.{text_of}
use Rattle.chew_spec_layout.specs.Table.{fed}
use Rattle.chew_spec_layout.proofs.laws.table.eten_keyboard.Goals as goal

pub returns-clause-digits : goal.returns-clause-digits
unfolding fed text_of encode
returns-clause-digits c = refl

pub returns-clause-upper : goal.returns-clause-upper
unfolding fed text_of encode
returns-clause-upper c = refl

pub returns-clause-home : goal.returns-clause-home
unfolding fed text_of encode
returns-clause-home c = refl

pub returns-clause-lower : goal.returns-clause-lower
unfolding fed text_of encode
returns-clause-lower c = refl

pub returns-clause-tones : goal.returns-clause-tones
unfolding fed text_of encode
returns-clause-tones c = refl
