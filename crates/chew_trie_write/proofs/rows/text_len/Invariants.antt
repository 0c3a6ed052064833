-- The bytes of the phrases so far.
use Rattle.std.proofs.Common.{◌≡◌, ◌*◌, ◌≤◌, length, take}
use Rattle.chew_spec_image.specs.Image.{text_of}
use Rattle.chew_trie_write.proofs.rows.text_len.Given as goal

abbrev pub invariant-loop-row : goal.invariant-loop-row
invariant-loop-row l = record {
  len : l.len ≡ length (text_of (take l.row-index l.rows));
  few : l.len ≤ 44 * l.row-index;
}
