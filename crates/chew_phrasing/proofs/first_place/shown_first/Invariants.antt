-- The row that is shown first so far.
use Rattle.std.proofs.Common.{take}
use Rattle.chew_phrasing.specs.FirstPlace.{IsFirstSoFar, rows_between}
use Rattle.chew_phrasing.proofs.first_place.shown_first.Given as goal

abbrev pub invariant-loop-i : goal.invariant-loop-i
invariant-loop-i g l =
    IsFirstSoFar (g.L.Lexicon.rows l.system) (take l.i (rows_between (g.L.Lexicon.rows l.system) l.start l.end)) l.place l.first.phrase.now l.first.freq
