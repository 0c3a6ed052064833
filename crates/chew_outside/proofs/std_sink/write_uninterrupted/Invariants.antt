-- A write that was interrupted moved no byte.
use Rattle.std.specs.Io.KnownBytes.{Keeps}
use Rattle.chew_outside.proofs.std_sink.write_uninterrupted.Given as goal

abbrev pub invariant-trying : goal.invariant-trying
invariant-trying g l = Keeps (g.W.Write.contents l.fn.writer) (g.W.Write.contents l.writer)
