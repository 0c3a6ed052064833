-- Each computes.
use Rattle.std.proofs.Common.{refl}
use Rattle.std.specs.Char.{encode_utf8}
use Rattle.std.specs.Str.{chars, is_utf8}
use Rattle.chew_spec_syllable.specs.Phrase.{is_phrase}
use Rattle.chew_spec_preedit.specs.Buffer.{is_buffer}
use Rattle.chew_spec_preedit.specs.Edit.{backspaced, break_toggled, chosen, deleted, inserted, released}
use Rattle.chew_spec_preedit.proofs.laws.known_edits.known_buffers.Goals as goal

pub returns-clause-six : goal.returns-clause-six
unfolding backspaced break_toggled chars chosen deleted encode_utf8 inserted is_buffer is_phrase is_utf8 released
returns-clause-six c = refl

pub returns-clause-cursor : goal.returns-clause-cursor
unfolding backspaced break_toggled chars chosen deleted encode_utf8 inserted is_buffer is_phrase is_utf8 released
returns-clause-cursor c = refl

pub returns-clause-full : goal.returns-clause-full
unfolding backspaced break_toggled chars chosen deleted encode_utf8 inserted is_buffer is_phrase is_utf8 released
returns-clause-full c = refl

pub returns-clause-room : goal.returns-clause-room
unfolding backspaced break_toggled chars chosen deleted encode_utf8 inserted is_buffer is_phrase is_utf8 released
returns-clause-room c = refl

pub returns-clause-eleven : goal.returns-clause-eleven
unfolding backspaced break_toggled chars chosen deleted encode_utf8 inserted is_buffer is_phrase is_utf8 released
returns-clause-eleven c = refl

pub returns-clause-break_at_start : goal.returns-clause-break_at_start
unfolding backspaced break_toggled chars chosen deleted encode_utf8 inserted is_buffer is_phrase is_utf8 released
returns-clause-break_at_start c = refl

pub returns-clause-break_at_symbol : goal.returns-clause-break_at_symbol
unfolding backspaced break_toggled chars chosen deleted encode_utf8 inserted is_buffer is_phrase is_utf8 released
returns-clause-break_at_symbol c = refl

pub returns-clause-break_twice : goal.returns-clause-break_twice
unfolding backspaced break_toggled chars chosen deleted encode_utf8 inserted is_buffer is_phrase is_utf8 released
returns-clause-break_twice c = refl

pub returns-clause-broken_choice : goal.returns-clause-broken_choice
unfolding backspaced break_toggled chars chosen deleted encode_utf8 inserted is_buffer is_phrase is_utf8 released
returns-clause-broken_choice c = refl

pub returns-clause-choice_over_symbol : goal.returns-clause-choice_over_symbol
unfolding backspaced break_toggled chars chosen deleted encode_utf8 inserted is_buffer is_phrase is_utf8 released
returns-clause-choice_over_symbol c = refl

pub returns-clause-choice_past_end : goal.returns-clause-choice_past_end
unfolding backspaced break_toggled chars chosen deleted encode_utf8 inserted is_buffer is_phrase is_utf8 released
returns-clause-choice_past_end c = refl

pub returns-clause-choices_meet : goal.returns-clause-choices_meet
unfolding backspaced break_toggled chars chosen deleted encode_utf8 inserted is_buffer is_phrase is_utf8 released
returns-clause-choices_meet c = refl

pub returns-clause-no_symbol : goal.returns-clause-no_symbol
unfolding backspaced break_toggled chars chosen deleted encode_utf8 inserted is_buffer is_phrase is_utf8 released
returns-clause-no_symbol c = refl

pub returns-clause-no_syllable : goal.returns-clause-no_syllable
unfolding backspaced break_toggled chars chosen deleted encode_utf8 inserted is_buffer is_phrase is_utf8 released
returns-clause-no_syllable c = refl

pub returns-clause-most : goal.returns-clause-most
unfolding backspaced break_toggled chars chosen deleted encode_utf8 inserted is_buffer is_phrase is_utf8 released
returns-clause-most c = refl

pub returns-clause-more : goal.returns-clause-more
unfolding backspaced break_toggled chars chosen deleted encode_utf8 inserted is_buffer is_phrase is_utf8 released
returns-clause-more c = refl

pub returns-clause-least : goal.returns-clause-least
unfolding backspaced break_toggled chars chosen deleted encode_utf8 inserted is_buffer is_phrase is_utf8 released
returns-clause-least c = refl

pub returns-clause-less : goal.returns-clause-less
unfolding backspaced break_toggled chars chosen deleted encode_utf8 inserted is_buffer is_phrase is_utf8 released
returns-clause-less c = refl
