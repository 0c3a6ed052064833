-- By the longest front.
use Rattle.chew_spec_syllable.proofs.PhraseEnd.{phrase_whole, phrase_nonempty, whole_phrase}
use Rattle.chew_spec_syllable.proofs.laws.phrase.phrase_is_whole.Goals as goal

pub returns : goal.returns
returns c = record { reaches_end = phrase_whole; nonempty = phrase_nonempty; back = whole_phrase }
