-- The runs to come phrase the pieces so far as all runs phrase the first ones.
use Rattle.std.proofs.Common.{◌≡◌, drop, map}
use Rattle.chew_spec_editor.specs.Finish.{phrased}
use Rattle.chew_plain.specs.Call.{reply_of}
use Rattle.chew_editor.proofs.phrasing.phrased.Given as goal

abbrev pub invariant-loop-i : goal.invariant-loop-i
invariant-loop-i g l =
    phrased (g.L.Lexicon.rows l.system) l.preedit l.phrased.items (drop l.i l.runs) (map reply_of (drop l.i l.replies))
    ≡ phrased (g.L.Lexicon.rows l.system) l.preedit l.initial.phrased.items l.runs (map reply_of l.replies)
