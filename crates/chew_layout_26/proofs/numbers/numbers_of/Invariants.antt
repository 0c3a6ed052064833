-- The numbers so far, and those that are left.
use Rattle.std.proofs.Common.{◌≡◌, ◌++◌, ◌≤◌}
use Rattle.arrayvec.specs.ArrayVec.{array_vec_len}
use Rattle.chew_spec_layout.specs.Letters.{numbers_of}
use Rattle.chew_layout_26.proofs.Rest.{rest}
use Rattle.chew_layout_26.proofs.numbers.numbers_of.Given as goal

abbrev pub invariant-letters : goal.invariant-letters
invariant-letters l = record {
  numbers : l.numbers.items ++ rest l.column l.letter l.place ≡ numbers_of l.column l.letter;
  room : array_vec_len l.numbers ≤ l.place;
}
