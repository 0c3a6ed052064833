-- One row of the key after the other.
use Rattle.std.proofs.Common.{ap, sym, ◌∙◌, bytes_eq}
use Rattle.chew_spec_syllable.specs.Row.{Row}
use Rattle.chew_spec_dictionary.specs.System.{rows_of}
use Rattle.chew_layers.proofs.Base.{sought_first, sought_here, sought_later, sought_range}
use Rattle.chew_layers.proofs.held.said_by_base.Goals as goal

pub loop-place-init : goal.loop-place-init
loop-place-init c =
    sought_first c.args.base.now c.args.key.now c.args.phrase.now c.places-places.result.start c.places-places.result.end c.total-total.ensures.map c.total-total.ensures.each
    (c.places-places.ensures.value ∙ ap (rows_of c.args.base.now) c.list.ensures.value)

pub returns-then-eq-clause-value : goal.returns-then-eq-clause-value
returns-then-eq-clause-value c =
    let row : Row = record { key = c.row_at-row.ensures.0; phrase = c.row_at-row.result.phrase.now; freq = c.row_at-row.result.freq; time = c.row_at-row.result.time } in
    sym (sought_here c.args.base.now c.args.key.now c.args.phrase.now c.loop-place.place c.places-places.result.end row c.loop-place.invariant c.loop-place-test.true
    c.places-places.ensures.end c.row_at-row.ensures.1 (ap (bytes_eq row.phrase) (sym c.text.ensures.value) ∙ sym c.eq.ensures ∙ c.if-eq.true))

pub returns-then-eq-clause-range : goal.returns-then-eq-clause-range
returns-then-eq-clause-range c =
    let row : Row = record { key = c.row_at-row.ensures.0; phrase = c.row_at-row.result.phrase.now; freq = c.row_at-row.result.freq; time = c.row_at-row.result.time } in
    sought_range c.args.base.now c.args.key.now c.args.phrase.now c.loop-place.place c.places-places.result.end row c.loop-place.invariant c.loop-place-test.true
    c.places-places.ensures.end c.row_at-row.ensures.1

pub loop-place-preserved : goal.loop-place-preserved
loop-place-preserved c =
    let row : Row = record { key = c.row_at-row.ensures.0; phrase = c.row_at-row.result.phrase.now; freq = c.row_at-row.result.freq; time = c.row_at-row.result.time } in
    sought_later c.args.base.now c.args.key.now c.args.phrase.now c.loop-place.place c.places-places.result.end row c.loop-place.invariant c.loop-place-test.true
    c.places-places.ensures.end c.row_at-row.ensures.1 (ap (bytes_eq row.phrase) (sym c.text.ensures.value) ∙ sym c.eq.ensures ∙ c.if-eq.false)
