-- The rows so far, with those that are left, are all of them, and there is room for all.
use Rattle.std.proofs.Common.{List, ◌++◌, ap, ◌∙◌, arith}
use Rattle.chew_spec_syllable.specs.Row.{Row}
use Rattle.chew_spec_layers.proofs.Overlays.{overlay_map}
use Rattle.chew_merge.specs.Rest.{rows_together}
use Rattle.chew_merge.proofs.Merging.{has_room, no_more, one_more}
use Rattle.chew_merge.proofs.new_base.rows_together.Goals as goal

pub loop-row-init : goal.loop-row-init
loop-row-init c =
    let all = c.into_iter-row-iterator.ensures.into_iter_gives ∙ c.of-row-items.ensures.value in
    let capacity = c.in_ok-rows.ensures.capacity in
    let enough = c.room_for.ensures in
    record {
      joined = ap (λ (rows : List Row). rows ++ rows_together c.into_iter-row-iterator.result) c.in_ok-rows.ensures.items ∙ ap rows_together all;
      room = omega (arith, capacity, enough);
    }

pub push_reserved-requires : goal.push_reserved-requires
push_reserved-requires c =
    let more = has_room c.loop-row.rows.items _ _ _ c.in-Some.row c.loop-row.invariant.joined c.in-Some.ensures.steps in
    let room = c.loop-row.invariant.room in
    let long = c.loop-row.rows.ok.0 in
    omega (arith, more, room, long)

pub loop-row-preserved : goal.loop-row-preserved
loop-row-preserved c =
    let capacity = c.push_reserved.ensures.capacity in
    let room = c.loop-row.invariant.room in
    record {
      joined = ap (λ (rows : List Row). rows ++ rows_together c.next.new.self) c.push_reserved.ensures.items
          ∙ one_more c.loop-row.rows.items _ _ _ c.in-Some.row c.loop-row.invariant.joined c.in-Some.ensures.steps;
      room = omega (arith, capacity, room);
    }

pub returns-clause-rows : goal.returns-clause-rows
returns-clause-rows c = no_more c.loop-row.rows.items _ _ c.loop-row.invariant.joined c.in-None.ensures.steps.0

pub returns-clause-map : goal.returns-clause-map
returns-clause-map c = let sound = c.of-row-items.ensures.sound in overlay_map c.args.base.now c.args.layer.now sound.map sound.layer
