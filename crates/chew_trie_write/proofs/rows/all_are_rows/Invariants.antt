-- Those so far are rows.
use Rattle.std.proofs.Common.{◌≡◌, true, take}
use Rattle.std.specs.List.{list_all}
use Rattle.chew_spec_syllable.specs.Row.{is_row}
use Rattle.chew_trie_write.proofs.rows.all_are_rows.Given as goal

abbrev pub invariant-loop-row : goal.invariant-loop-row
invariant-loop-row l = list_all is_row (take l.row-index l.rows) ≡ true
