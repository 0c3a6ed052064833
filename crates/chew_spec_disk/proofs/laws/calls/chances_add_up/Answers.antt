-- By the lemmas on moments.
use Rattle.chew_spec_disk.proofs.Moments.{might-later, might-more}
use Rattle.chew_spec_disk.proofs.laws.calls.chances_add_up.Goals as goal

pub returns-clause-later : goal.returns-clause-later
returns-clause-later g c = λ from until. might-later from until _ _ _

pub returns-clause-more : goal.returns-clause-more
returns-clause-more g c = λ from. might-more from _ _ _
