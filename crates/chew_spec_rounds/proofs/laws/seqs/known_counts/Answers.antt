-- By the two facts of a round.
use Rattle.std.specs.Prelude.{refl}
use Rattle.std.proofs.Common.{arith}
use Rattle.chew_spec_rounds.specs.Seq.{last_seq}
use Rattle.chew_spec_rounds.proofs.Counts.{saved-spent}
use Rattle.chew_spec_rounds.proofs.laws.seqs.known_counts.Goals as goal

pub returns-clause-too_early : goal.returns-clause-too_early
returns-clause-too_early c = λ counts. let same = ((counts.spent 7).0 refl).0 in omega arith

pub returns-clause-too_late : goal.returns-clause-too_late
returns-clause-too_late c = λ counts. saved-spent ((counts.spent last_seq).1 (refl, refl))
