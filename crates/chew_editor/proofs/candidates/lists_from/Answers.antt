-- One length less to go, until there is none.
use Rattle.chew_editor.proofs.CandidateLists.{lists-all, lists-more}
use Rattle.chew_editor.proofs.candidates.lists_from.Goals as goal

pub loop-len-preserved : goal.loop-len-preserved
loop-len-preserved c =
    lists-more c.args.rows.now c.args.breaks.now c.args.place c.loop-len.len c.loop-len.lists.items _ _ c.loop-len-test.true c.in_ok-push_list.ensures c.loop-len.invariant

pub returns : goal.returns
returns c = lists-all c.args.rows.now c.args.breaks.now c.args.place c.loop-len.len c.loop-len.lists.items _ c.loop-len-test.false c.loop-len.invariant
