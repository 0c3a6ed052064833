-- One start more; and the intervals of a run lie in it.
use Rattle.std.proofs.Common.{◌+◌, ◌≤◌, All, Contains, sym, subst}
use Rattle.std.proofs.lemmas.List.Elements.{All-contains_itself, All-weaker}
use Rattle.chew_spec_dictionary.specs.Look.{Interval, intervals}
use Rattle.chew_spec_dictionary.proofs.Hits.{listed_within}
use Rattle.chew_plain.specs.Look.{intervals_from}
use Rattle.chew_plain.proofs.Looks.{part_more, parts_all}
use Rattle.chew_plain.proofs.interval.intervals.Goals as goal

pub loop-start-preserved : goal.loop-start-preserved
loop-start-preserved c = part_more (intervals_from c.args.count) _ _ _ c.loop-start.start c.args.count c.loop-start-test.true c.in_ok-push_from.ensures c.loop-start.invariant

pub returns-clause-each : goal.returns-clause-each
returns-clause-each c =
    let n = c.args.count in
    subst (All (λ (at : Interval). (1 ≤ at.len) × (at.len ≤ 11) × (at.start + at.len ≤ n))) (sym (parts_all (intervals_from n) _ _ c.loop-start.start n c.loop-start-test.false c.loop-start.invariant))
    (All-weaker (Contains (intervals n)) (λ (at : Interval). (1 ≤ at.len) × (at.len ≤ 11) × (at.start + at.len ≤ n)) (λ at h. listed_within n at h) (intervals n) (All-contains_itself (intervals n)))
