-- The pieces placed so far, and those to come.
use Rattle.std.proofs.Common.{◌≡◌, ◌++◌, drop, map}
use Rattle.chew_spec_preedit.specs.PlacedRun.{piece_on}
use Rattle.chew_editor.proofs.renewing.push_placed.Given as goal

abbrev pub invariant-loop-piece : goal.invariant-loop-piece
invariant-loop-piece l =
    l.all.items ++ map (piece_on l.run.start) (drop l.piece-index l.best) ≡ l.initial.all.items ++ map (piece_on l.run.start) l.best
