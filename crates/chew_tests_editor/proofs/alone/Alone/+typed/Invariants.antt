-- The keys that are left.
use Rattle.std.proofs.Common.{length}
use Rattle.chew_tests_editor.proofs.alone.Alone.«+typed».Given as goal

abbrev pub decreases-typed : goal.decreases-typed
decreases-typed l = length l.keys.now
