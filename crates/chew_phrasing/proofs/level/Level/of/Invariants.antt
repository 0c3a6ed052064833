-- The orders that begin with a longer piece are there.
use Rattle.std.proofs.Common.{◌-◌}
use Rattle.chew_phrasing.specs.Grid.{piece_in}
use Rattle.chew_phrasing.specs.Table.{IsPart}
use Rattle.chew_phrasing.proofs.level.Level.of.Given as goal

abbrev pub invariant-loop-shorter : goal.invariant-loop-shorter
invariant-loop-shorter l = IsPart (piece_in l.grid) l.levels l.grid.cells l.left (l.most - l.shorter) l.entries.items
