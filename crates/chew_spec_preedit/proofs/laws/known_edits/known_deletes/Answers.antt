-- Each computes.
use Rattle.std.proofs.Common.{refl}
use Rattle.std.specs.Char.{encode_utf8}
use Rattle.std.specs.Str.{chars, is_utf8}
use Rattle.chew_spec_syllable.specs.Phrase.{is_phrase}
use Rattle.chew_spec_preedit.specs.Buffer.{is_buffer}
use Rattle.chew_spec_preedit.specs.Edit.{backspaced, break_toggled, chosen, deleted, inserted, released}
use Rattle.chew_spec_preedit.proofs.laws.known_edits.known_deletes.Goals as goal

pub returns-clause-first : goal.returns-clause-first
unfolding backspaced break_toggled chars chosen deleted encode_utf8 inserted is_buffer is_phrase is_utf8 released
returns-clause-first c = refl

pub returns-clause-before_break : goal.returns-clause-before_break
unfolding backspaced break_toggled chars chosen deleted encode_utf8 inserted is_buffer is_phrase is_utf8 released
returns-clause-before_break c = refl

pub returns-clause-at_break : goal.returns-clause-at_break
unfolding backspaced break_toggled chars chosen deleted encode_utf8 inserted is_buffer is_phrase is_utf8 released
returns-clause-at_break c = refl

pub returns-clause-behind_break : goal.returns-clause-behind_break
unfolding backspaced break_toggled chars chosen deleted encode_utf8 inserted is_buffer is_phrase is_utf8 released
returns-clause-behind_break c = refl

pub returns-clause-symbol : goal.returns-clause-symbol
unfolding backspaced break_toggled chars chosen deleted encode_utf8 inserted is_buffer is_phrase is_utf8 released
returns-clause-symbol c = refl

pub returns-clause-back_first : goal.returns-clause-back_first
unfolding backspaced break_toggled chars chosen deleted encode_utf8 inserted is_buffer is_phrase is_utf8 released
returns-clause-back_first c = refl

pub returns-clause-back_before_break : goal.returns-clause-back_before_break
unfolding backspaced break_toggled chars chosen deleted encode_utf8 inserted is_buffer is_phrase is_utf8 released
returns-clause-back_before_break c = refl

pub returns-clause-back_last : goal.returns-clause-back_last
unfolding backspaced break_toggled chars chosen deleted encode_utf8 inserted is_buffer is_phrase is_utf8 released
returns-clause-back_last c = refl
