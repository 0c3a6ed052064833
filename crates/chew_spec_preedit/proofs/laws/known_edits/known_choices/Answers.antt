-- Each computes.
use Rattle.std.proofs.Common.{refl}
use Rattle.std.specs.Char.{encode_utf8}
use Rattle.std.specs.Str.{chars, is_utf8}
use Rattle.chew_spec_syllable.specs.Phrase.{is_phrase}
use Rattle.chew_spec_preedit.specs.Buffer.{is_buffer}
use Rattle.chew_spec_preedit.specs.Edit.{backspaced, break_toggled, chosen, deleted, inserted, released}
use Rattle.chew_spec_preedit.proofs.laws.known_edits.known_choices.Goals as goal

pub returns-clause-one_cell : goal.returns-clause-one_cell
unfolding backspaced break_toggled chars chosen deleted encode_utf8 inserted is_buffer is_phrase is_utf8 released
returns-clause-one_cell c = refl

pub returns-clause-same_cells : goal.returns-clause-same_cells
unfolding backspaced break_toggled chars chosen deleted encode_utf8 inserted is_buffer is_phrase is_utf8 released
returns-clause-same_cells c = refl

pub returns-clause-behind : goal.returns-clause-behind
unfolding backspaced break_toggled chars chosen deleted encode_utf8 inserted is_buffer is_phrase is_utf8 released
returns-clause-behind c = refl

pub returns-clause-between : goal.returns-clause-between
unfolding backspaced break_toggled chars chosen deleted encode_utf8 inserted is_buffer is_phrase is_utf8 released
returns-clause-between c = refl

pub returns-clause-both : goal.returns-clause-both
unfolding backspaced break_toggled chars chosen deleted encode_utf8 inserted is_buffer is_phrase is_utf8 released
returns-clause-both c = refl

pub returns-clause-may : goal.returns-clause-may
unfolding backspaced break_toggled chars chosen deleted encode_utf8 inserted is_buffer is_phrase is_utf8 released
returns-clause-may c = refl

pub returns-clause-parted : goal.returns-clause-parted
unfolding backspaced break_toggled chars chosen deleted encode_utf8 inserted is_buffer is_phrase is_utf8 released
returns-clause-parted c = refl

pub returns-clause-most : goal.returns-clause-most
unfolding backspaced break_toggled chars chosen deleted encode_utf8 inserted is_buffer is_phrase is_utf8 released
returns-clause-most c = refl

pub returns-clause-more : goal.returns-clause-more
unfolding backspaced break_toggled chars chosen deleted encode_utf8 inserted is_buffer is_phrase is_utf8 released
returns-clause-more c = refl
