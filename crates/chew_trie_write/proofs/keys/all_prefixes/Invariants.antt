-- The prefixes of the first rows' keys were added.
use Rattle.std.proofs.Common.{◌≡◌, ◌*◌, ◌≤◌, length, take}
use Rattle.std.specs.List.{flat_map}
use Rattle.chew_spec_syllable.specs.Row.{Row}
use Rattle.chew_spec_image.specs.NodeKeys.{prefixes_of}
use Rattle.chew_trie_write.proofs.keys.all_prefixes.Given as goal

abbrev pub invariant-loop-row : goal.invariant-loop-row
invariant-loop-row l = record {
  items : l.keys.items ≡ flat_map (λ (row : Row). prefixes_of row.key) (take l.row-index l.rows);
  few : length l.keys.items ≤ 11 * l.row-index;
}
