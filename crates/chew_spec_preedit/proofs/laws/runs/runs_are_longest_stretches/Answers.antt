-- By the run that cells begin with, and those behind it.
use Rattle.chew_spec_preedit.proofs.RunParts.{run-begins, run-codes, run-ends, run-some, run-with, runs-in_turn}
use Rattle.chew_spec_preedit.proofs.laws.runs.runs_are_longest_stretches.Goals as goal

pub returns-clause-some : goal.returns-clause-some
returns-clause-some c = run-some

pub returns-clause-codes : goal.returns-clause-codes
returns-clause-codes c = run-codes

pub returns-clause-begins : goal.returns-clause-begins
returns-clause-begins c = run-begins

pub returns-clause-ends : goal.returns-clause-ends
returns-clause-ends c = run-ends

pub returns-clause-each : goal.returns-clause-each
returns-clause-each c = run-with

pub returns-clause-apart : goal.returns-clause-apart
returns-clause-apart c = runs-in_turn
