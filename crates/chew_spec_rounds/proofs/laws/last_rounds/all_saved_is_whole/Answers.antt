-- By the lemma on the whole history.
use Rattle.chew_spec_rounds.proofs.LastRounds.{all-saved}
use Rattle.chew_spec_rounds.proofs.laws.last_rounds.all_saved_is_whole.Goals as goal

pub returns : goal.returns
returns g c = λ start history from. all-saved start history from g.D.AnyDisks.now
