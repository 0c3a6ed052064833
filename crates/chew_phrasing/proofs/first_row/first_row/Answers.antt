-- The row of the key that is shown first settles it, or all of them are gone over.
use Rattle.std.proofs.Common.{◌++◌, not, filter, map, Some, sym, ap, ◌∙◌, subst}
use Rattle.chew_spec_dictionary.specs.Call.{Hit}
use Rattle.chew_spec_dictionary.specs.System.{rows_of}
use Rattle.chew_spec_phrasing.specs.CombinedRows.{as_shown, is_free_of, is_shown, shown_hit}
use Rattle.chew_phrasing.specs.Least.{IsLeast, keeps}
use Rattle.chew_phrasing.proofs.FirstPlaces.{becomes_first, first_of_key, stays_first}
use Rattle.chew_phrasing.proofs.SystemRows.{row_among}
use Rattle.chew_phrasing.proofs.first_row.first_row.Goals as goal

pub returns-then-not-comes_before-clause-first : goal.returns-then-not-comes_before-clause-first
returns-then-not-comes_before-clause-first g c =
    stays_first c.args.at (is_free_of c.args.found.now) (rows_of (g.L.Lexicon.rows c.args.system.now) c.args.key.now)
    (record { key = c.row_at-row.ensures.0; phrase = c.row_at-row.result.phrase.now; freq = c.row_at-row.result.freq; time = c.row_at-row.result.time })
    (first_of_key (g.L.Lexicon.rows c.args.system.now) c.args.key.now c.places-places.result.start c.places-places.result.end c.in_ok-first_place.field-0
    (record { key = c.row_at-row.ensures.0; phrase = c.row_at-row.result.phrase.now; freq = c.row_at-row.result.freq; time = c.row_at-row.result.time })
    c.places-places.ensures.value c.in_ok-first_place.ensures.place c.row_at-row.ensures.1)
    (keeps c.args.choices.now c.args.at) (map as_shown (filter is_shown c.args.found.now)) c.first_found-first.result
    (sym c.comes_before.ensures ∙ c.if-not-comes_before.true) c.first_found-first.ensures

pub as_hit-requires-clause-long : goal.as_hit-requires-clause-long
as_hit-requires-clause-long g c =
    (row_among (g.L.Lexicon.rows c.args.system.now) c.args.key.now
    (record { key = c.row_at-row.ensures.0; phrase = c.row_at-row.result.phrase.now; freq = c.row_at-row.result.freq; time = c.row_at-row.result.time })
    c.places-places.ensures.each (first_of_key (g.L.Lexicon.rows c.args.system.now) c.args.key.now c.places-places.result.start c.places-places.result.end c.in_ok-first_place.field-0
    (record { key = c.row_at-row.ensures.0; phrase = c.row_at-row.result.phrase.now; freq = c.row_at-row.result.freq; time = c.row_at-row.result.time })
    c.places-places.ensures.value c.in_ok-first_place.ensures.place c.row_at-row.ensures.1).among).0
    ∙ c.requires.long

pub as_hit-requires-clause-freq : goal.as_hit-requires-clause-freq
as_hit-requires-clause-freq g c =
    (row_among (g.L.Lexicon.rows c.args.system.now) c.args.key.now
    (record { key = c.row_at-row.ensures.0; phrase = c.row_at-row.result.phrase.now; freq = c.row_at-row.result.freq; time = c.row_at-row.result.time })
    c.places-places.ensures.each (first_of_key (g.L.Lexicon.rows c.args.system.now) c.args.key.now c.places-places.result.start c.places-places.result.end c.in_ok-first_place.field-0
    (record { key = c.row_at-row.ensures.0; phrase = c.row_at-row.result.phrase.now; freq = c.row_at-row.result.freq; time = c.row_at-row.result.time })
    c.places-places.ensures.value c.in_ok-first_place.ensures.place c.row_at-row.ensures.1).among).1

pub returns-clause-first : goal.returns-clause-first
returns-clause-first g c =
    subst (λ (top : Hit). IsLeast (keeps c.args.choices.now c.args.at) (map as_shown (filter is_shown c.args.found.now) ++ map (shown_hit c.args.at) (filter (is_free_of c.args.found.now) (rows_of (g.L.Lexicon.rows c.args.system.now) c.args.key.now))) (Some top)) (sym c.as_hit.ensures)
    (becomes_first c.args.at (is_free_of c.args.found.now) (rows_of (g.L.Lexicon.rows c.args.system.now) c.args.key.now)
    (record { key = c.row_at-row.ensures.0; phrase = c.row_at-row.result.phrase.now; freq = c.row_at-row.result.freq; time = c.row_at-row.result.time })
    (first_of_key (g.L.Lexicon.rows c.args.system.now) c.args.key.now c.places-places.result.start c.places-places.result.end c.in_ok-first_place.field-0
    (record { key = c.row_at-row.ensures.0; phrase = c.row_at-row.result.phrase.now; freq = c.row_at-row.result.freq; time = c.row_at-row.result.time })
    c.places-places.ensures.value c.in_ok-first_place.ensures.place c.row_at-row.ensures.1)
    (keeps c.args.choices.now c.args.at) (map as_shown (filter is_shown c.args.found.now)) c.first_found-first.result
    (sym c.comes_before.ensures ∙ c.if-not-comes_before.false) (sym c.keeps_choices.ensures ∙ c.if-not-keeps_choices.false)
    (ap not (sym c.is_taken.ensures ∙ c.if-is_taken.false)) c.first_found-first.ensures)
