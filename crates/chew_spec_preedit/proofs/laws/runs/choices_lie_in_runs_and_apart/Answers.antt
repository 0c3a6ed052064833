-- By the run of its first cell.
use Rattle.chew_spec_preedit.proofs.RunParts.{choice-in_run, choice-unbroken, choices-apart}
use Rattle.chew_spec_preedit.proofs.laws.runs.choices_lie_in_runs_and_apart.Goals as goal

pub returns-clause-within : goal.returns-clause-within
returns-clause-within c = choice-in_run

pub returns-clause-unbroken : goal.returns-clause-unbroken
returns-clause-unbroken c = choice-unbroken

pub returns-clause-apart : goal.returns-clause-apart
returns-clause-apart c = choices-apart
