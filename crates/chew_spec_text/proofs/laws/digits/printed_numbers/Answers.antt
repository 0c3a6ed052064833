-- By the digits of a number.
use Rattle.std.proofs.Common.{ap, ◌∙◌, Some}
use Rattle.std.proofs.lemmas.Bool.{and_from, and_right, cond-true, cond-false, le-leb, lt-leb}
use Rattle.std.specs.Prelude.{decimal, nat_le}
use Rattle.chew_spec_text.specs.Digits.{is_number}
use Rattle.chew_spec_text.proofs.Clean.{decimal_number, decimal_value}
use Rattle.chew_spec_text.proofs.laws.digits.printed_numbers.Goals as goal

pub returns : goal.returns
returns c = record {
  read = λ number most small few.
      let value = decimal_value number small in
      cond-true _ _ _ (and_from (is_number (decimal number)) _ (decimal_number number small) (ap (λ n. nat_le n most) value ∙ le-leb number most few)) ∙ ap Some value;
  too_great = λ number most small great.
      let value = decimal_value number small in
      cond-false _ _ _ (and_right (is_number (decimal number)) _ (ap (λ n. nat_le n most) value ∙ lt-leb number most great));
}
