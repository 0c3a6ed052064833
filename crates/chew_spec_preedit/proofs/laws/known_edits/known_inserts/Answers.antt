-- Each computes.
use Rattle.std.proofs.Common.{refl}
use Rattle.std.specs.Char.{encode_utf8}
use Rattle.std.specs.Str.{chars, is_utf8}
use Rattle.chew_spec_syllable.specs.Phrase.{is_phrase}
use Rattle.chew_spec_preedit.specs.Buffer.{is_buffer}
use Rattle.chew_spec_preedit.specs.Edit.{backspaced, break_toggled, chosen, deleted, inserted, released}
use Rattle.chew_spec_preedit.proofs.laws.known_edits.known_inserts.Goals as goal

pub returns-clause-start : goal.returns-clause-start
unfolding backspaced break_toggled chars chosen deleted encode_utf8 inserted is_buffer is_phrase is_utf8 released
returns-clause-start c = refl

pub returns-clause-inside : goal.returns-clause-inside
unfolding backspaced break_toggled chars chosen deleted encode_utf8 inserted is_buffer is_phrase is_utf8 released
returns-clause-inside c = refl

pub returns-clause-at_break : goal.returns-clause-at_break
unfolding backspaced break_toggled chars chosen deleted encode_utf8 inserted is_buffer is_phrase is_utf8 released
returns-clause-at_break c = refl

pub returns-clause-inside_second : goal.returns-clause-inside_second
unfolding backspaced break_toggled chars chosen deleted encode_utf8 inserted is_buffer is_phrase is_utf8 released
returns-clause-inside_second c = refl

pub returns-clause-behind : goal.returns-clause-behind
unfolding backspaced break_toggled chars chosen deleted encode_utf8 inserted is_buffer is_phrase is_utf8 released
returns-clause-behind c = refl

pub returns-clause-end : goal.returns-clause-end
unfolding backspaced break_toggled chars chosen deleted encode_utf8 inserted is_buffer is_phrase is_utf8 released
returns-clause-end c = refl
