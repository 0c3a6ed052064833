-- The hits of all intervals are there.
use Rattle.std.proofs.Common.{◌≡◌, ℕ, List, length, flat_map, ap, ◌∙◌, arith}
use Rattle.std.proofs.lemmas.List.{take_all}
use Rattle.chew_spec_dictionary.specs.Look.{hits_of, intervals}
use Rattle.chew_plain.specs.Look.{hits_at}
use Rattle.chew_layers.specs.Contents.{rows_held}
use Rattle.chew_layers.proofs.held.Held.look.Goals as goal

pub returns : goal.returns
unfolding hits_of
returns c =
    let all = intervals (length c.args.run.now) in
    let same : c.as_slice-at-items.result.now ≡ all =
    c.as_slice-at-items.ensures.value ∙ c.in_ok-list.ensures.value ∙ ap (λ (l : List ℕ). intervals (length l)) c.list.ensures.value in
    c.loop-at.invariant ∙ ap (flat_map (hits_at (rows_held c.args.self) c.args.run.now)) (take_all c.loop-at.at-index all (omega (arith, c.loop-at-test.false, ap length same)))
