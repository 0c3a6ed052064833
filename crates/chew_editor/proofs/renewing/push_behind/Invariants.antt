-- The pieces kept so far, and those of the pieces to come.
use Rattle.std.proofs.Common.{◌≡◌, ◌++◌, drop, filter}
use Rattle.std.specs.Prelude.{nat_le}
use Rattle.chew_spec_preedit.specs.PlacedRun.{run_end}
use Rattle.chew_editor.proofs.renewing.push_behind.Given as goal

abbrev pub invariant-loop-piece : goal.invariant-loop-piece
invariant-loop-piece l =
    l.all.items ++ filter (λ piece. nat_le (run_end l.run) piece.start) (drop l.piece-index l.pieces)
    ≡ l.initial.all.items ++ filter (λ piece. nat_le (run_end l.run) piece.start) l.pieces
