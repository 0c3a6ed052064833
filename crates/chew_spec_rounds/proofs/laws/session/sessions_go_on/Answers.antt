-- By the lemmas on one round more.
use Rattle.chew_spec_rounds.proofs.Floors.{round-more}
use Rattle.chew_spec_rounds.proofs.Reading.{in-step-begins, reads-more}
use Rattle.chew_spec_rounds.proofs.Sessions.{others-more, session-begins}
use Rattle.chew_spec_rounds.proofs.laws.session.sessions_go_on.Goals as goal

pub returns-clause-begins : goal.returns-clause-begins
returns-clause-begins g c = λ start. session-begins start g.D.AnyDisks.now

pub returns-clause-round : goal.returns-clause-round
returns-clause-round g c = λ start seen seen_then from rounds round. round-more start seen seen_then from g.D.AnyDisks.before g.D.AnyDisks.now rounds round

pub returns-clause-others : goal.returns-clause-others
returns-clause-others g c = λ start seen history from rounds. others-more start seen history from g.D.AnyDisks.now rounds

pub returns-clause-in_step : goal.returns-clause-in_step
returns-clause-in_step g c = λ keep start. in-step-begins keep g.D.AnyDisks.now start

pub returns-clause-reads : goal.returns-clause-reads
returns-clause-reads g c = λ start history from rounds. reads-more start history from g.D.AnyDisks.before g.D.AnyDisks.now rounds
