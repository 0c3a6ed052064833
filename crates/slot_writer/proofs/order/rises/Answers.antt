-- Each row is below the next one, so they are a map.
use Rattle.std.proofs.Common.{arith}
use Rattle.chew_spec_dictionary.proofs.Rows.{map_has_no_pair_twice}
use Rattle.slot_writer.proofs.Neighbours.{neighbours_map}
use Rattle.slot_writer.proofs.order.rises.Goals as goal

pub returns-clause-map : goal.returns-clause-map
returns-clause-map c = λ _. neighbours_map c.args.rows.now (λ j h d. c.loop-i.invariant j (let test = c.loop-i-test.false in omega arith) d)

pub returns-clause-apart : goal.returns-clause-apart
returns-clause-apart c = λ _. map_has_no_pair_twice c.args.rows.now (neighbours_map c.args.rows.now (λ j h d. c.loop-i.invariant j (let test = c.loop-i-test.false in omega arith) d))
