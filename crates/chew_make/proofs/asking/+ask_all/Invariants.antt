-- The calls that are left.
use Rattle.std.proofs.Common.{length}
use Rattle.chew_make.proofs.asking.«+ask_all».Given as goal

abbrev pub decreases-ask_all : goal.decreases-ask_all
decreases-ask_all l = length l.calls.now
