-- Those so far have times of 64 bits.
use Rattle.std.proofs.Common.{◌≡◌, true, take}
use Rattle.std.specs.List.{list_all}
use Rattle.chew_spec_image.specs.Image.{has_time}
use Rattle.chew_trie_write.proofs.rows.all_have_times.Given as goal

abbrev pub invariant-loop-row : goal.invariant-loop-row
invariant-loop-row l = list_all has_time (take l.row-index l.rows) ≡ true
