-- Each value computes.
use Rattle.std.proofs.Common.{refl}
use lib.Utf8.{encode}
use Rattle.std.specs.Fmt.{digits}
use Rattle.chew_spec_text.specs.Entry.{entry_text}
use Rattle.chew_spec_text.proofs.laws.entry.known_entries.Goals as goal

pub returns-clause-look : goal.returns-clause-look
unfolding entry_text digits encode
returns-clause-look c = refl

pub returns-clause-learn : goal.returns-clause-learn
unfolding entry_text digits encode
returns-clause-learn c = refl

pub returns-clause-forget : goal.returns-clause-forget
unfolding entry_text digits encode
returns-clause-forget c = refl

pub returns-clause-freeze : goal.returns-clause-freeze
unfolding entry_text digits encode
returns-clause-freeze c = refl

pub returns-clause-install : goal.returns-clause-install
unfolding entry_text digits encode
returns-clause-install c = refl

pub returns-clause-one_syllable : goal.returns-clause-one_syllable
unfolding entry_text digits encode
returns-clause-one_syllable c = refl

pub returns-clause-learn_new : goal.returns-clause-learn_new
unfolding entry_text digits encode
returns-clause-learn_new c = refl

pub returns-clause-no_syllable : goal.returns-clause-no_syllable
unfolding entry_text digits encode
returns-clause-no_syllable c = refl

pub returns-clause-hide : goal.returns-clause-hide
unfolding entry_text digits encode
returns-clause-hide c = refl
