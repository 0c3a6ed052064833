-- Each value computes.
use Rattle.std.proofs.Common.{refl}
use lib.Utf8.{encode}
use Rattle.std.specs.Str.{chars, is_utf8}
use Rattle.chew_spec_syllable.specs.Phrase.{is_phrase}
use Rattle.chew_spec_dictionary.specs.Dictionary.{learn}
use Rattle.chew_spec_rounds.specs.Front.{front_checkpoint}
use Rattle.chew_spec_rounds.proofs.laws.known.the_old_number.Goals as goal

pub returns-clause-legal : goal.returns-clause-legal
unfolding is_phrase is_utf8 chars encode
returns-clause-legal c = refl

pub returns-clause-front : goal.returns-clause-front
unfolding front_checkpoint learn encode
returns-clause-front c = refl
