-- By the marks of a text.
use Rattle.chew_spec_syllable.proofs.Reading.{place_within, before_place}
use Rattle.chew_spec_syllable.proofs.laws.syllable.place_of_refusal.Goals as goal

pub returns : goal.returns
returns c = record { within = place_within; before = before_place }
