-- The value is that of the digits so far, and within the limit.
use Rattle.std.proofs.Common.{◌≡◌, ◌≤◌, take, true}
use Rattle.std.specs.List.{list_all}
use Rattle.std.specs.Char.{is_ascii_digit}
use Rattle.chew_spec_text.specs.Digits.{digits_value}
use Rattle.chew_text.proofs.digits.number_up_to.Given as goal

abbrev pub invariant-loop-byte : goal.invariant-loop-byte
invariant-loop-byte l = record {
  value : l.value ≡ digits_value (take l.byte-index l.text);
  all : list_all is_ascii_digit (take l.byte-index l.text) ≡ true;
  below : l.value ≤ l.most;
}
