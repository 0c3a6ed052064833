-- By the lemmas on how rounds count.
use Rattle.chew_spec_rounds.proofs.Counts.{spent-by-count, spent-number}
use Rattle.chew_spec_rounds.proofs.laws.seqs.spent_by_counting.Goals as goal

pub returns-clause-spent : goal.returns-clause-spent
returns-clause-spent c = λ seqs before round later. spent-by-count seqs before round later

pub returns-clause-number : goal.returns-clause-number
returns-clause-number c = λ seqs before number later. spent-number seqs before number later
