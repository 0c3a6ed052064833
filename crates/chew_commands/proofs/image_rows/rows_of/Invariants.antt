-- The rows so far, and those that are left.
use Rattle.std.proofs.Common.{◌≡◌, ◌++◌, true}
use Rattle.std.specs.List.{list_all}
use Rattle.chew_spec_syllable.specs.Row.{is_row}
use Rattle.chew_commands.proofs.image_rows.rows_of.Given as goal

abbrev pub invariant-loop-key : goal.invariant-loop-key
invariant-loop-key l = record {
  can : (goal.iterator-loop-key).can_next l.key-iterator;
  finite : (goal.iterator-loop-key).is_finite l.key-iterator;
  joined : l.rows.items ++ l.key-iterator ≡ l.trie;
  each : list_all is_row l.key-iterator ≡ true;
}
