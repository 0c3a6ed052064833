use Rattle.chew_spec_editor.proofs.Talks.{joined}
use Rattle.chew_spec_editor.proofs.laws.talk.talks_joined.Goals as goal

pub returns : goal.returns
returns c = joined
