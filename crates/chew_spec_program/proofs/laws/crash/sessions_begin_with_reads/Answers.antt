use Rattle.chew_spec_program.proofs.Kept.{begins-earlier}
use Rattle.chew_spec_program.proofs.laws.crash.sessions_begin_with_reads.Goals as goal

pub returns : goal.returns
returns g c = λ start history rounds is leaves un later had.
    begins-earlier start history rounds g.D.AnyDisks.first g.D.AnyDisks.before g.D.AnyDisks.now is leaves un later had
