-- Each computes.
use Rattle.std.proofs.Common.{refl}
use Rattle.std.specs.Char.{encode_utf8}
use Rattle.std.specs.Str.{chars, is_utf8}
use Rattle.chew_spec_syllable.specs.Phrase.{is_phrase}
use Rattle.chew_spec_preedit.specs.Buffer.{is_buffer}
use Rattle.chew_spec_preedit.specs.Edit.{backspaced, break_toggled, chosen, deleted, inserted, released}
use Rattle.chew_spec_preedit.proofs.laws.known_edits.known_releases.Goals as goal

pub returns-clause-one : goal.returns-clause-one
unfolding backspaced break_toggled chars chosen deleted encode_utf8 inserted is_buffer is_phrase is_utf8 released
returns-clause-one c = refl

pub returns-clause-past_cursor : goal.returns-clause-past_cursor
unfolding backspaced break_toggled chars chosen deleted encode_utf8 inserted is_buffer is_phrase is_utf8 released
returns-clause-past_cursor c = refl

pub returns-clause-both : goal.returns-clause-both
unfolding backspaced break_toggled chars chosen deleted encode_utf8 inserted is_buffer is_phrase is_utf8 released
returns-clause-both c = refl

pub returns-clause-later_break : goal.returns-clause-later_break
unfolding backspaced break_toggled chars chosen deleted encode_utf8 inserted is_buffer is_phrase is_utf8 released
returns-clause-later_break c = refl

pub returns-clause-none : goal.returns-clause-none
unfolding backspaced break_toggled chars chosen deleted encode_utf8 inserted is_buffer is_phrase is_utf8 released
returns-clause-none c = refl

pub returns-clause-moved : goal.returns-clause-moved
unfolding backspaced break_toggled chars chosen deleted encode_utf8 inserted is_buffer is_phrase is_utf8 released
returns-clause-moved c = refl

pub returns-clause-emptied : goal.returns-clause-emptied
unfolding backspaced break_toggled chars chosen deleted encode_utf8 inserted is_buffer is_phrase is_utf8 released
returns-clause-emptied c = refl
