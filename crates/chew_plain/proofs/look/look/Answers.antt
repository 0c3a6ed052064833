-- The hits of one interval more, until all are there.
use Rattle.std.proofs.Common.{◌≡◌, List, length, flat_map, get_or, ap, ◌∙◌, arith}
use Rattle.std.proofs.lemmas.List.{take_all}
use Rattle.chew_spec_dictionary.specs.Look.{Interval, hits_of, intervals}
use Rattle.chew_plain.specs.Look.{hits_at}
use Rattle.chew_plain.proofs.Looks.{parts_more}
use Rattle.chew_plain.proofs.look.look.Goals as goal

pub loop-at-preserved : goal.loop-at-preserved
loop-at-preserved c =
    let all = intervals (length c.args.run.now) in
    let same : c.as_slice-at-items.result.now ≡ all = c.as_slice-at-items.ensures.value ∙ c.in_ok-list.ensures.value in
    parts_more (hits_at c.args.pairs.now c.args.run.now) all c.loop-at.at-index c.at-item.result c.loop-at.hits.items c.push_at.new.hits.items
    (omega (arith, c.loop-at-test.true, ap length same))
    (c.at-item.is ∙ ap (λ (l : List Interval). get_or l c.loop-at.at-index c.at-item.result) same)
    c.loop-at.invariant c.in_ok-push_at.ensures

pub returns : goal.returns
unfolding hits_of
returns c =
    let all = intervals (length c.args.run.now) in
    let same : c.as_slice-at-items.result.now ≡ all = c.as_slice-at-items.ensures.value ∙ c.in_ok-list.ensures.value in
    c.loop-at.invariant ∙ ap (flat_map (hits_at c.args.pairs.now c.args.run.now)) (take_all c.loop-at.at-index all (omega (arith, c.loop-at-test.false, ap length same)))
