-- Round by round.
use Rattle.std.specs.Prelude.{[], ◌∷◌, refl}
use Rattle.chew_spec_dictionary.specs.Call.{Freeze, Install}
use Rattle.chew_spec_rounds.proofs.OwnCalls.{no-calls}
use Rattle.chew_spec_rounds.proofs.laws.known.calls_over_rounds.Goals as goal

pub returns-clause-saved_twice : goal.returns-clause-saved_twice
returns-clause-saved_twice c = (Freeze ∷ (Install 2 ∷ []), Freeze ∷ (Install 5 ∷ []), refl, refl, (Freeze ∷ (Install 5 ∷ []), [], refl, refl, refl))

pub returns-clause-failed_before : goal.returns-clause-failed_before
returns-clause-failed_before c = (Freeze ∷ [], Freeze ∷ (Install 1 ∷ []), refl, refl, (Freeze ∷ (Install 1 ∷ []), [], refl, refl, refl))

pub returns-clause-nothing_more : goal.returns-clause-nothing_more
returns-clause-nothing_more c = λ calls. no-calls Freeze [] calls.0 calls.1 calls.2 calls.3 calls.4
