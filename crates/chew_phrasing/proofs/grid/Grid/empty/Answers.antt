-- One slot more; no interval has a piece.
use Rattle.std.proofs.Common.{◌*◌}
use Rattle.chew_phrasing.proofs.Emptying.{IsGrid-none, length-empty}
use Rattle.chew_phrasing.proofs.grid.Grid.empty.Goals as goal

pub invariant_of-result : goal.invariant_of-result
invariant_of-result c = (c.requires.short, length-empty c.loop.counter (c.args.cells * 11) c.loop.slots.items c.loop.auto.counter-end c.loop-test.false c.loop.invariant)

pub returns-clause-grid : goal.returns-clause-grid
returns-clause-grid c = λ breaks. IsGrid-none breaks c.loop.counter (record { cells = c.args.cells; slots = c.loop.slots.items }) c.loop.invariant
