-- The pieces kept so far, and those of the pieces to come.
use Rattle.std.proofs.Common.{◌≡◌, ◌+◌, ◌++◌, drop, filter}
use Rattle.std.specs.Prelude.{nat_le}
use Rattle.chew_spec_phrasing.specs.Usable.{phrase_len}
use Rattle.chew_editor.proofs.renewing.push_before.Given as goal

abbrev pub invariant-loop-piece : goal.invariant-loop-piece
invariant-loop-piece l =
    l.all.items ++ filter (λ piece. nat_le (piece.start + phrase_len piece.phrase) l.run.start) (drop l.piece-index l.pieces)
    ≡ l.initial.all.items ++ filter (λ piece. nat_le (piece.start + phrase_len piece.phrase) l.run.start) l.pieces
