-- One run more, until there is none or no reply.
use Rattle.std.proofs.Common.{List, ap, arith, length, ◌∙◌}
use Rattle.chew_spec_phrasing.specs.Usable.{Piece}
use Rattle.chew_spec_editor.specs.Finish.{best_of_run, renewed}
use Rattle.chew_plain.specs.Call.{reply_of}
use Rattle.chew_editor.proofs.FinishedState.{least}
use Rattle.chew_editor.proofs.PhrasedSteps.{phrasable-at, phrased-all, phrased-more}
use Rattle.chew_editor.proofs.phrasing.phrased.Goals as goal

pub phrased_anew-requires : goal.phrased_anew-requires
phrased_anew-requires g c =
    let count = c.min-count.ensures ∙ least (length c.args.runs.now) (length c.args.replies.now) in
    phrasable-at reply_of (g.L.Lexicon.rows c.args.system.now) c.args.preedit.now c.args.runs.now c.args.replies.now c.loop-i.i
    c.index-runs-i.result c.index-replies-i.result c.hits_in-found.result.now c.requires (omega arith) c.index-runs-i.is (omega arith) c.index-replies-i.is c.hits_in-found.ensures

pub loop-i-preserved : goal.loop-i-preserved
loop-i-preserved g c =
    let count = c.min-count.ensures ∙ least (length c.args.runs.now) (length c.args.replies.now) in
    let system = g.L.Lexicon.rows c.args.system.now in
    let run = c.index-runs-i.result in
    let hits = c.hits_in-found.result.now in
    phrased-more reply_of system c.args.preedit.now c.args.runs.now c.args.replies.now c.loop-i.i run c.index-replies-i.result hits c.loop-i.phrased.items _ _
    (omega arith) c.index-runs-i.is (omega arith) c.index-replies-i.is c.hits_in-found.ensures
    (c.in_ok-phrased.ensures ∙ ap (λ (pieces : List Piece). renewed run (best_of_run system c.args.preedit.now run hits) pieces) c.deref.ensures.value)
    c.loop-i.invariant

pub returns : goal.returns
returns g c =
    let count = c.min-count.ensures ∙ least (length c.args.runs.now) (length c.args.replies.now) in
    phrased-all reply_of (g.L.Lexicon.rows c.args.system.now) c.args.preedit.now c.args.runs.now c.args.replies.now c.loop-i.i c.loop-i.phrased.items _
    (omega arith) c.loop-i.invariant
