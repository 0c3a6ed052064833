-- The phrases of the first rows were written.
use Rattle.std.proofs.Common.{◌≡◌, ◌++◌, take}
use Rattle.chew_spec_image.specs.Image.{text_of}
use Rattle.chew_trie_write.proofs.rows.push_text.Given as goal

abbrev pub invariant-loop-row : goal.invariant-loop-row
invariant-loop-row l = record {
  items : l.out.items ≡ l.fn.out.items ++ text_of (take l.row-index l.rows);
}
