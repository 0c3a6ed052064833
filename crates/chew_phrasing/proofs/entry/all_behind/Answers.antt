-- One entry more.
use Rattle.std.proofs.Common.{ap, ◌∙◌, ◌++◌, ◌∷◌, []}
use Rattle.chew_phrasing.proofs.Behind.{behind_all, behind_more}
use Rattle.chew_phrasing.proofs.entry.all_behind.Goals as goal

pub loop-place-preserved : goal.loop-place-preserved
loop-place-preserved c =
    behind_more c.args.len c.args.weight c.loop-place.place c.args.entries.now c.loop-place.all.items c.push.new.self.items _ c.index-entries-place.result
    c.loop-place-test.true c.index-entries-place.is (c.in_ok-push.ensures.items ∙ ap (λ entry. c.loop-place.all.items ++ (entry ∷ [])) c.behind.ensures) c.loop-place.invariant

pub returns : goal.returns
returns c =
    behind_all c.args.len c.args.weight c.loop-place.place c.args.entries.now c.loop-place.all.items _ c.loop-place-test.false c.loop-place.invariant
