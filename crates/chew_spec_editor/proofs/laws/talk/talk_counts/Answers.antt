use Rattle.chew_spec_editor.proofs.Talks.{few_lines, taken}
use Rattle.chew_spec_editor.proofs.laws.talk.talk_counts.Goals as goal

pub returns-clause-lines : goal.returns-clause-lines
returns-clause-lines c = few_lines

pub returns-clause-calls : goal.returns-clause-calls
returns-clause-calls c = taken
