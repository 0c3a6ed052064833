-- Each value computes.
use Rattle.std.proofs.Common.{refl}
use lib.Utf8.{encode}
use Rattle.std.specs.Str.{chars, is_utf8}
use Rattle.chew_spec_syllable.specs.Phrase.{is_phrase}
use Rattle.chew_spec_dictionary.proofs.laws.legal.known_legal.Goals as goal

pub returns-clause-learn : goal.returns-clause-learn
unfolding is_phrase is_utf8 chars encode
returns-clause-learn c = refl

pub returns-clause-above_peak : goal.returns-clause-above_peak
unfolding is_phrase is_utf8 chars encode
returns-clause-above_peak c = refl

pub returns-clause-out_of_range : goal.returns-clause-out_of_range
unfolding is_phrase is_utf8 chars encode
returns-clause-out_of_range c = refl

pub returns-clause-forget : goal.returns-clause-forget
unfolding is_phrase is_utf8 chars encode
returns-clause-forget c = refl

pub returns-clause-no_pair : goal.returns-clause-no_pair
unfolding is_phrase is_utf8 chars encode
returns-clause-no_pair c = refl

pub returns-clause-hide : goal.returns-clause-hide
unfolding is_phrase is_utf8 chars encode
returns-clause-hide c = refl

pub returns-clause-one_syllable : goal.returns-clause-one_syllable
unfolding is_phrase is_utf8 chars encode
returns-clause-one_syllable c = refl

pub returns-clause-look : goal.returns-clause-look
unfolding is_phrase is_utf8 chars encode
returns-clause-look c = refl

pub returns-clause-long_run : goal.returns-clause-long_run
unfolding is_phrase is_utf8 chars encode
returns-clause-long_run c = refl

pub returns-clause-keeper_looks : goal.returns-clause-keeper_looks
unfolding is_phrase is_utf8 chars encode
returns-clause-keeper_looks c = refl

pub returns-clause-freeze : goal.returns-clause-freeze
unfolding is_phrase is_utf8 chars encode
returns-clause-freeze c = refl

pub returns-clause-other_freezes : goal.returns-clause-other_freezes
unfolding is_phrase is_utf8 chars encode
returns-clause-other_freezes c = refl

pub returns-clause-install : goal.returns-clause-install
unfolding is_phrase is_utf8 chars encode
returns-clause-install c = refl

pub returns-clause-other_number : goal.returns-clause-other_number
unfolding is_phrase is_utf8 chars encode
returns-clause-other_number c = refl

pub returns-clause-none_waits : goal.returns-clause-none_waits
unfolding is_phrase is_utf8 chars encode
returns-clause-none_waits c = refl

pub returns-clause-other_installs : goal.returns-clause-other_installs
unfolding is_phrase is_utf8 chars encode
returns-clause-other_installs c = refl
