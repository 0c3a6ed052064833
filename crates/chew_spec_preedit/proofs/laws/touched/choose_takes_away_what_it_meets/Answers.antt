-- Before it, itself and behind it.
use Rattle.chew_spec_preedit.proofs.Touched.{chosen-choices}
use Rattle.chew_spec_preedit.proofs.laws.touched.choose_takes_away_what_it_meets.Goals as goal

pub returns : goal.returns
returns c = record { choices = chosen-choices }
