-- Each value computes.
use Rattle.std.proofs.Common.{refl}
use lib.Utf8.{encode}
use Rattle.std.specs.Fmt.{digits}
use Rattle.chew_spec_dictionary.specs.FiveRows.{five_rows}
use Rattle.chew_spec_syllable.specs.SyllableText.{text_of}
use Rattle.chew_spec_text.proofs.laws.dictionary_text.known_rows_printed.Goals as goal

pub returns-clause-five : goal.returns-clause-five
unfolding five_rows text_of encode digits
returns-clause-five c = refl

pub returns-clause-bytes : goal.returns-clause-bytes
unfolding five_rows text_of encode digits
returns-clause-bytes c = refl

pub returns-clause-zero : goal.returns-clause-zero
unfolding five_rows text_of encode digits
returns-clause-zero c = refl

pub returns-clause-none : goal.returns-clause-none
unfolding five_rows text_of encode digits
returns-clause-none c = refl
