-- By the third byte.
use Rattle.std.proofs.Common.{arith}
use Rattle.chew_syllable.proofs.Numbers.{block_here, block_none, as_slice}
use Rattle.chew_syllable.proofs.bopomofo_reading.read_block.Goals as goal

pub returns-then-byte-least-clause-value : goal.returns-then-byte-least-clause-value
returns-then-byte-least-clause-value c = block_none c.args.text.now c.args.first c.args.count c.requires (λ low high. omega arith)

pub returns-then-byte-least-2-clause-value : goal.returns-then-byte-least-2-clause-value
returns-then-byte-least-2-clause-value c = block_none c.args.text.now c.args.first c.args.count c.requires (λ low high. omega arith)

pub returns-clause-value : goal.returns-clause-value
returns-clause-value c =
    rw c.block_byte-byte.ensures
    (as_slice _ c.args.text.now _ 3 (block_here c.args.text.now c.args.first c.args.count c.requires (omega arith) (omega arith)))
