-- By the lemmas on the shape.
use Rattle.chew_spec_rounds.proofs.Rounds.{fault-waits, saved-installs, unsaved-holds}
use Rattle.chew_spec_rounds.proofs.laws.rounds.what_rounds_install.Goals as goal

pub returns-clause-saved : goal.returns-clause-saved
returns-clause-saved g c = λ start seen seen_then. saved-installs start seen seen_then g.D.AnyDisks.before g.D.AnyDisks.now

pub returns-clause-same : goal.returns-clause-same
returns-clause-same g c = λ start seen seen_then round l none r. (unsaved-holds start seen seen_then g.D.AnyDisks.before g.D.AnyDisks.now round l none r).installed

pub returns-clause-waits : goal.returns-clause-waits
returns-clause-waits g c = λ start seen seen_then round number l none r. (unsaved-holds start seen seen_then g.D.AnyDisks.before g.D.AnyDisks.now round l none r).waiting number

pub returns-clause-frozen : goal.returns-clause-frozen
returns-clause-frozen g c = λ start seen seen_then. fault-waits start seen seen_then g.D.AnyDisks.before g.D.AnyDisks.now
