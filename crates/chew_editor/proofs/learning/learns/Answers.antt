-- The stretches of all pieces.
use Rattle.std.proofs.Common.{ap, arith, map, ◌∙◌}
use Rattle.chew_spec_preedit.proofs.IsBuffer.{IsBuffer-from}
use Rattle.chew_plain.specs.Call.{call_of}
use Rattle.chew_preedit.specs.CellItem.{cell_of}
use Rattle.chew_editor.proofs.LearnSteps.{fit-all, learns-all, learns-none}
use Rattle.chew_editor.proofs.learning.learns.Goals as goal

pub push_stretches-requires : goal.push_stretches-requires
push_stretches-requires g c =
    fit-all c.args.preedit.now.cells (map cell_of c.cells-cells.result.now) c.breaks-breaks.result.now c.args.pieces.now c.first-item.result c.of.result c.deref.result.now
    c.cells-cells.ensures.value (c.deref.ensures.value ∙ c.in_ok-shown.ensures) c.of.ensures (IsBuffer-from c.args.preedit.now c.cells-cells.ensures.valid).cells
    c.requires.covered c.requires.pieces c.in-len1-up.len_at_least c.first-item.is

pub returns-in-len1-up : goal.returns-in-len1-up
returns-in-len1-up g c =
    learns-all (g.L.Lexicon.rows c.args.system.now) c.args.preedit.now.cells (map cell_of c.cells-cells.result.now) c.args.preedit.now.breaks c.breaks-breaks.result.now
    c.args.pieces.now c.first-item.result c.of.result c.deref.result.now (map call_of c.new-calls.result.items) _
    c.cells-cells.ensures.value c.breaks-breaks.ensures.value (c.deref.ensures.value ∙ c.in_ok-shown.ensures) c.of.ensures
    c.requires.covered c.requires.pieces c.in-len1-up.len_at_least c.first-item.is (ap (map call_of) c.new-calls.ensures.items) c.in_ok-push_stretches-in-len1-up.ensures

pub returns : goal.returns
returns g c =
    learns-none (g.L.Lexicon.rows c.args.system.now) c.args.preedit.now.cells c.args.preedit.now.breaks c.args.pieces.now (map call_of c.new-calls.result.items)
    (omega arith) (ap (map call_of) c.new-calls.ensures.items)
