-- By the second byte.
use Rattle.std.proofs.Common.{arith}
use Rattle.chew_syllable.proofs.Numbers.{dot_here, rising_here, dipping_here, falling_here, no_tone_here, as_slice}
use Rattle.chew_syllable.proofs.bopomofo_reading.read_tone.Goals as goal

pub returns-in-153-clause-value : goal.returns-in-153-clause-value
returns-in-153-clause-value c =
    as_slice _ c.args.text.now _ 2 (dot_here c.args.text.now (omega arith))

pub returns-in-138-clause-value : goal.returns-in-138-clause-value
returns-in-138-clause-value c =
    as_slice _ c.args.text.now _ 2 (rising_here c.args.text.now (omega arith))

pub returns-in-135-clause-value : goal.returns-in-135-clause-value
returns-in-135-clause-value c =
    as_slice _ c.args.text.now _ 2 (dipping_here c.args.text.now (omega arith))

pub returns-in-139-clause-value : goal.returns-in-139-clause-value
returns-in-139-clause-value c =
    as_slice _ c.args.text.now _ 2 (falling_here c.args.text.now (omega arith))

pub returns-in_default-clause-value : goal.returns-in_default-clause-value
returns-in_default-clause-value c = no_tone_here c.args.text.now (λ e. omega arith) (λ e. omega arith) (λ e. omega arith) (λ e. omega arith)
