use Rattle.chew_spec_editor.proofs.WholeTalks.{choice-in_run, choice-unbroken, choices-apart}
use Rattle.chew_spec_editor.proofs.laws.whole_talks.choices_lie_apart.Goals as goal

pub returns : goal.returns
returns c = record { apart = choices-apart; run = choice-in_run; unbroken = choice-unbroken }
