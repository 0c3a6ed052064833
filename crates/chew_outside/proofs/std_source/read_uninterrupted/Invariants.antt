-- A read that was interrupted moved no byte.
use Rattle.std.specs.Io.KnownBytes.{Keeps}
use Rattle.chew_outside.proofs.std_source.read_uninterrupted.Given as goal

abbrev pub invariant-trying : goal.invariant-trying
invariant-trying g l = Keeps (g.R.Read.remaining l.fn.reader) (g.R.Read.remaining l.reader)
