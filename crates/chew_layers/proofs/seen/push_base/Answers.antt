-- One row of the base after the other.
use Rattle.std.proofs.Common.{ap, ◌∙◌, length}
use Rattle.chew_spec_syllable.specs.Row.{Row}
use Rattle.chew_spec_dictionary.specs.Look.{hit_of}
use Rattle.chew_spec_dictionary.specs.System.{rows_of}
use Rattle.chew_plain.specs.Look.{interval}
use Rattle.chew_layers.proofs.Base.{pushed_first, pushed_more, pushed_row}
use Rattle.chew_layers.proofs.seen.push_base.Goals as goal

pub loop-place-init : goal.loop-place-init
loop-place-init c =
    pushed_first (hit_of (interval c.args.start (length c.args.key.now))) c.args.held.base.now c.args.held.frozen.now c.args.held.fresh.now c.args.key.now c.args.hits.now.items
    c.places-places.result.start c.places-places.result.end c.total-total.ensures.map c.total-total.ensures.each
    (c.places-places.ensures.value ∙ ap (rows_of c.args.held.base.now) c.list.ensures.value)

pub push_row-requires-clause-pair : goal.push_row-requires-clause-pair
push_row-requires-clause-pair c =
    let row : Row = record { key = c.row_at.ensures.0; phrase = c.row_at.result.phrase.now; freq = c.row_at.result.freq; time = c.row_at.result.time } in
    (pushed_row c.args.key.now c.args.held.base.now c.loop-place.place c.places-places.result.end row c.loop-place.invariant.left c.loop-place-test.true c.places-places.ensures.end c.row_at.ensures.1).1

pub push_row-requires-clause-range : goal.push_row-requires-clause-range
push_row-requires-clause-range c =
    let row : Row = record { key = c.row_at.ensures.0; phrase = c.row_at.result.phrase.now; freq = c.row_at.result.freq; time = c.row_at.result.time } in
    (pushed_row c.args.key.now c.args.held.base.now c.loop-place.place c.places-places.result.end row c.loop-place.invariant.left c.loop-place-test.true c.places-places.ensures.end c.row_at.ensures.1).2

pub loop-place-preserved : goal.loop-place-preserved
loop-place-preserved c =
    let row : Row = record { key = c.row_at.ensures.0; phrase = c.row_at.result.phrase.now; freq = c.row_at.result.freq; time = c.row_at.result.time } in
    pushed_more (hit_of (interval c.args.start (length c.args.key.now))) c.args.held.base.now c.args.held.frozen.now c.args.held.fresh.now c.args.key.now c.args.hits.now.items
    c.loop-place.hits.items c.push_row.new.hits.items c.loop-place.place c.places-places.result.end row c.loop-place.invariant c.loop-place-test.true c.places-places.ensures.end c.row_at.ensures.1
    c.in_ok-push_row.ensures
