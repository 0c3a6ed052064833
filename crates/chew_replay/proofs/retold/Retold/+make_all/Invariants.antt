-- The calls that are left.
use Rattle.std.proofs.Common.{length}
use Rattle.chew_replay.proofs.retold.Retold.«+make_all».Given as goal

abbrev pub decreases-make_all : goal.decreases-make_all
decreases-make_all l = length l.calls.now
