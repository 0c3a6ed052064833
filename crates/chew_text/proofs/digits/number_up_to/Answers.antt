-- One digit more writes too much.
use Rattle.std.proofs.Common.{◌+◌, ◌<◌, length, take, sym, arith}
use Rattle.std.proofs.lemmas.List.Sums.{fold_more}
use Rattle.chew_spec_text.specs.Digits.{digits_value}
use Rattle.chew_text.proofs.Numbers.{next_value, too_great}
use Rattle.chew_text.proofs.digits.number_up_to.Goals as goal
use Rattle.chew_text.proofs.digits.number_up_to.Goals.{then-digit-most-via-then-digit-most, then-digit-most-via-else-digit-most+then-value-most}

-- the digits so far and this one
above : (c : goal.Joined-then-digit-most) → c.args.most < digits_value (take (c.loop-byte.byte-index + 1) c.args.text.now)
above c =
    let within : c.loop-byte.byte-index < length c.args.text.now = omega arith in
    let more = fold_more next_value 0 c.args.text.now c.loop-byte.byte-index 0 within in
    elim c.then-digit-most.branch [
      | then-digit-most-via-then-digit-most w ↦ omega (arith, more)
      | then-digit-most-via-else-digit-most+then-value-most w ↦ omega (arith, more)
    ]

pub returns-then-digit-most-clause-value : goal.returns-then-digit-most-clause-value
returns-then-digit-most-clause-value c = sym (too_great c.args.most c.args.text.now (c.loop-byte.byte-index + 1) (above c))
