-- By the places of the history's freezes.
use Rattle.std.proofs.Common.{inl, inr, refl}
use Rattle.chew_spec_rounds.proofs.KnownNumbers.{not-three}
use Rattle.chew_spec_rounds.proofs.laws.known.known_numbers.Goals as goal

pub returns-clause-none : goal.returns-clause-none
returns-clause-none c = inl refl

pub returns-clause-frozen : goal.returns-clause-frozen
returns-clause-frozen c = inr (record { place = 1; freeze = refl; reply = refl })

pub returns-clause-second_place : goal.returns-clause-second_place
returns-clause-second_place c = not-three
