-- The keys that are left.
use Rattle.std.proofs.Common.{length}
use Rattle.chew_tests_editor.proofs.library.«+type_keys».Given as goal

abbrev pub decreases-type_keys : goal.decreases-type_keys
decreases-type_keys l = length l.keys.now
