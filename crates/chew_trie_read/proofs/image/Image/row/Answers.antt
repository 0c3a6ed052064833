-- The rows stand one behind the other, and so do their phrases.
use Rattle.std.proofs.Common.{◌<◌, ◌≤◌, List, length, sym, ap, ◌∙◌, subst, arith, rules}
use Rattle.std.specs.List.{slice_get}
use Rattle.std.specs.Str.{IsUtf8}
use Rattle.chew_spec_syllable.specs.Row.{Row}
use Rattle.chew_spec_image.specs.Fields.{RowFields}
use Rattle.chew_spec_image.specs.Reading.{rows_in}
use Rattle.chew_trie_read.proofs.Stored.{row_low, row_read, row_same, row_within, text_within}
use Rattle.chew_trie_read.proofs.image.Image.row.Goals as goal

pub overflow_add-rows_place : goal.overflow_add-rows_place
overflow_add-rows_place c =
    let within : c.args.place < length (rows_in c.self.inside.bytes.now) = subst (λ (r : List Row). c.args.place < length r) (sym c.self.view_is) c.requires in
    let low = row_low c.self.inside.bytes.now c.self.inside.counts c.args.place c.self.invariant within in
    let at = c.rows_place.ensures in
    omega arith

pub row_at-row-requires : goal.row_at-row-requires
row_at-row-requires c =
    let within : c.args.place < length (rows_in c.self.inside.bytes.now) = subst (λ (r : List Row). c.args.place < length r) (sym c.self.view_is) c.requires in
    let there = row_within c.self.inside.bytes.now c.self.inside.counts c.args.place c.self.invariant within in
    let at = c.rows_place.ensures in
    omega arith

pub slice_bounds-text-count : goal.slice_bounds-text-count
slice_bounds-text-count c =
    let there = text_within c.self.inside.bytes.now c.self.inside.counts c.self.invariant in
    let at = c.text_place.ensures in
    omega arith

pub slice_bounds-text-start : goal.slice_bounds-text-start
slice_bounds-text-start c =
    let there = text_within c.self.inside.bytes.now c.self.inside.counts c.self.invariant in
    let at : c.text_place.result ≤ length c.self.inside.bytes.now = let e = c.text_place.ensures in omega arith in
    search (rules, at)

pub phrase_in-requires : goal.phrase_in-requires
phrase_in-requires c =
    let within : c.args.place < length (rows_in c.self.inside.bytes.now) = subst (λ (r : List Row). c.args.place < length r) (sym c.self.view_is) c.requires in
    let read = row_read c.self.inside.bytes.now c.self.inside.counts c.args.place c.rows_place.result c.text_place.result c.row_at-row.result c.self.invariant within c.rows_place.ensures c.row_at-row.ensures c.text_place.ensures in
    read.within

pub utf8_of-requires : goal.utf8_of-requires
utf8_of-requires c =
    let within : c.args.place < length (rows_in c.self.inside.bytes.now) = subst (λ (r : List Row). c.args.place < length r) (sym c.self.view_is) c.requires in
    let read = row_read c.self.inside.bytes.now c.self.inside.counts c.args.place c.rows_place.result c.text_place.result c.row_at-row.result c.self.invariant within c.rows_place.ensures c.row_at-row.ensures c.text_place.ensures in
    subst IsUtf8 (sym (c.phrase_in.ensures ∙ read.phrase)) read.text_is

pub returns : goal.returns
returns c =
    let within : c.args.place < length (rows_in c.self.inside.bytes.now) = subst (λ (r : List Row). c.args.place < length r) (sym c.self.view_is) c.requires in
    let read = row_read c.self.inside.bytes.now c.self.inside.counts c.args.place c.rows_place.result c.text_place.result c.row_at-row.result c.self.invariant within c.rows_place.ensures c.row_at-row.ensures c.text_place.ensures in (
      read.row.key,
      ap (λ (r : List Row). slice_get r c.args.place) (sym c.self.view_is) ∙ read.at
          ∙ row_same read.row c.utf8_of.result.now c.row.inside.freq c.row.inside.time (sym (c.utf8_of.ensures ∙ c.phrase_in.ensures ∙ read.phrase))
          (sym (ap (λ (f : RowFields). f.freq) c.row.view_is ∙ read.freq)) (sym (ap (λ (f : RowFields). f.time) c.row.view_is ∙ read.time)),
    )
