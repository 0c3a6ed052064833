-- The learns so far, and those of the stretch and of the pieces to come.
use Rattle.std.proofs.Common.{◌++◌, drop, map}
use Rattle.chew_plain.specs.Call.{call_of}
use Rattle.chew_preedit.specs.CellItem.{cell_of}
use Rattle.chew_editor.specs.Spans.{learns_from}
use Rattle.chew_editor.proofs.LearnSteps.{Learns}
use Rattle.chew_editor.proofs.learning.push_stretches.Given as goal

abbrev pub invariant-loop-piece : goal.invariant-loop-piece
invariant-loop-piece g l =
    Learns (g.L.Lexicon.rows l.system) l.breaks (map cell_of l.cells) l.shown (map call_of l.calls.items) l.stretch (drop l.piece-index l.pieces)
    (map call_of l.initial.calls.items ++ learns_from (g.L.Lexicon.rows l.system) l.breaks (map cell_of l.cells) l.shown l.initial.stretch l.pieces)
