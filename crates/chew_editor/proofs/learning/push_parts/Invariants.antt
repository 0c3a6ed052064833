-- The learns so far, and those of the parts to come.
use Rattle.std.proofs.Common.{◌≡◌, ◌-◌, ◌++◌, map}
use Rattle.std.specs.List.{range_with_len}
use Rattle.chew_plain.specs.Call.{call_of}
use Rattle.chew_preedit.specs.CellItem.{cell_of}
use Rattle.chew_editor.specs.Spans.{eleven, learn_of}
use Rattle.chew_editor.proofs.learning.push_parts.Given as goal

abbrev pub invariant-loop-n : goal.invariant-loop-n
invariant-loop-n g l =
    map call_of l.calls.items ++ map (λ n. learn_of (g.L.Lexicon.rows l.system) (eleven n (map cell_of l.cells)) (eleven n l.shown)) (range_with_len l.n (l.parts - l.n))
    ≡ map call_of l.initial.calls.items ++ map (λ n. learn_of (g.L.Lexicon.rows l.system) (eleven n (map cell_of l.cells)) (eleven n l.shown)) (range_with_len 0 l.parts)
