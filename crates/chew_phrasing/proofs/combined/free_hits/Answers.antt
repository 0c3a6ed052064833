-- One row more: it is free, or it isn't.
use Rattle.std.proofs.Common.{[], ◌∷◌, ◌++◌, not, sym, ap, ◌∙◌}
use Rattle.chew_spec_dictionary.specs.System.{rows_of}
use Rattle.chew_phrasing.proofs.Combining.{free_more, free_same}
use Rattle.chew_phrasing.proofs.SystemRows.{row_of_key}
use Rattle.chew_phrasing.proofs.combined.free_hits.Goals as goal
use Rattle.chew_phrasing.proofs.combined.free_hits.Goals.{then-not-is_taken+in_ok-push, else-not-is_taken}

pub as_hit-requires-clause-phrase : goal.as_hit-requires-clause-phrase
as_hit-requires-clause-phrase g c =
    (row_of_key (g.L.Lexicon.rows c.args.system.now) c.args.key.now c.places-places.result.start c.places-places.result.end c.loop-i.i
    (record { key = c.row_at-row.ensures.0; phrase = c.row_at-row.result.phrase.now; freq = c.row_at-row.result.freq; time = c.row_at-row.result.time })
    c.places-places.ensures.value c.places-places.ensures.end c.places-places.ensures.each c.loop-i-test.true c.row_at-row.ensures.1).phrase

pub as_hit-requires-clause-long : goal.as_hit-requires-clause-long
as_hit-requires-clause-long g c =
    (row_of_key (g.L.Lexicon.rows c.args.system.now) c.args.key.now c.places-places.result.start c.places-places.result.end c.loop-i.i
    (record { key = c.row_at-row.ensures.0; phrase = c.row_at-row.result.phrase.now; freq = c.row_at-row.result.freq; time = c.row_at-row.result.time })
    c.places-places.ensures.value c.places-places.ensures.end c.places-places.ensures.each c.loop-i-test.true c.row_at-row.ensures.1).long
    ∙ c.requires.long

pub as_hit-requires-clause-freq : goal.as_hit-requires-clause-freq
as_hit-requires-clause-freq g c =
    (row_of_key (g.L.Lexicon.rows c.args.system.now) c.args.key.now c.places-places.result.start c.places-places.result.end c.loop-i.i
    (record { key = c.row_at-row.ensures.0; phrase = c.row_at-row.result.phrase.now; freq = c.row_at-row.result.freq; time = c.row_at-row.result.time })
    c.places-places.ensures.value c.places-places.ensures.end c.places-places.ensures.each c.loop-i-test.true c.row_at-row.ensures.1).freq

pub loop-i-preserved : goal.loop-i-preserved
loop-i-preserved g c =
    let rows = rows_of (g.L.Lexicon.rows c.args.system.now) c.args.key.now in
    let there = (row_of_key (g.L.Lexicon.rows c.args.system.now) c.args.key.now c.places-places.result.start c.places-places.result.end c.loop-i.i
    (record { key = c.row_at-row.ensures.0; phrase = c.row_at-row.result.phrase.now; freq = c.row_at-row.result.freq; time = c.row_at-row.result.time })
    c.places-places.ensures.value c.places-places.ensures.end c.places-places.ensures.each c.loop-i-test.true c.row_at-row.ensures.1).there in
    elim c.if-not-is_taken.branch [
      | then-not-is_taken+in_ok-push w ↦ free_more c.args.at c.args.own.now rows c.loop-i.i _ c.loop-i.free.items c.if-not-is_taken.free.items _ there
          (ap not (sym c.is_taken.ensures ∙ w.if-not-is_taken.true))
          (ap (λ free. free.items) w.free-is ∙ (w.in_ok-push.ensures.items ∙ ap (λ hit. c.loop-i.free.items ++ (hit ∷ [])) w.as_hit.ensures))
          c.loop-i.invariant
      | else-not-is_taken w ↦ free_same c.args.at c.args.own.now rows c.loop-i.i _ c.loop-i.free.items c.if-not-is_taken.free.items _ there
          (ap not (sym c.is_taken.ensures ∙ w.if-not-is_taken.false))
          (ap (λ free. free.items) w.free-is)
          c.loop-i.invariant
    ]
