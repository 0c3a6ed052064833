use Rattle.chew_spec_editor.proofs.Talks.{more_replies}
use Rattle.chew_spec_editor.proofs.laws.talk.further_replies.Goals as goal

pub returns : goal.returns
returns c = more_replies
