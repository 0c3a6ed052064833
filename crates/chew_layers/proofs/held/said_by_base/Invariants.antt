-- The pair is not among the rows so far.
use Rattle.chew_layers.proofs.Base.{IsSought}
use Rattle.chew_layers.proofs.held.said_by_base.Given as goal

abbrev pub invariant-loop-place : goal.invariant-loop-place
invariant-loop-place l = IsSought l.base l.key l.phrase l.place l.place-end
