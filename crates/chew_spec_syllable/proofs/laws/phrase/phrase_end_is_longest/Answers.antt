-- By the longest front.
use Rattle.chew_spec_syllable.proofs.PhraseEnd.{end_within, end_begins, end_longest}
use Rattle.chew_spec_syllable.proofs.laws.phrase.phrase_end_is_longest.Goals as goal

pub returns : goal.returns
returns c = record { within = end_within; begins = end_begins; longest = end_longest }
