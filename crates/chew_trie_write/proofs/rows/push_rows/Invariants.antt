-- The rows that are left come behind what was written.
use Rattle.std.proofs.Common.{◌≡◌, ◌*◌, ◌≤◌, ◌++◌, drop}
use Rattle.std.specs.List.{flat_map}
use Rattle.chew_spec_image.specs.Fields.{row_bytes}
use Rattle.chew_spec_image.specs.Image.{fields_from}
use Rattle.chew_trie_write.proofs.rows.push_rows.Given as goal

abbrev pub invariant-loop-row : goal.invariant-loop-row
invariant-loop-row l = record {
  items : l.fn.out.items ++ flat_map row_bytes (fields_from 0 l.rows) ≡ l.out.items ++ flat_map row_bytes (fields_from l.text_start (drop l.row-index l.rows));
  few : l.text_start ≤ 44 * l.row-index;
}
