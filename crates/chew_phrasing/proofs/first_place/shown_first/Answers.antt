-- One row more.
use Rattle.std.proofs.Common.{◌≡◌, ◌+◌, slice_get, sym, ap, ◌∙◌, arith}
use Rattle.chew_phrasing.specs.FirstPlace.{rows_between}
use Rattle.chew_phrasing.proofs.FirstPlaces.{first_of_one, one_later, one_sooner}
use Rattle.chew_phrasing.proofs.SystemRows.{row_between}
use Rattle.chew_phrasing.proofs.first_place.shown_first.Goals as goal
use Rattle.chew_phrasing.proofs.first_place.shown_first.Goals.{else-is_before, then-is_before}

pub loop-i-init : goal.loop-i-init
loop-i-init g c =
    let there = row_between (g.L.Lexicon.rows c.args.system.now) c.requires.key.0 c.args.start c.args.end 0
    (record { key = c.row_at-first.ensures.0; phrase = c.row_at-first.result.phrase.now; freq = c.row_at-first.result.freq; time = c.row_at-first.result.time })
    c.requires.key.1 (let some = c.requires.some in omega arith) (ap (slice_get (g.L.Lexicon.rows c.args.system.now)) (let e : c.args.start + 0 ≡ c.args.start = omega arith in e) ∙ c.row_at-first.ensures.1) in
    first_of_one (g.L.Lexicon.rows c.args.system.now) (rows_between (g.L.Lexicon.rows c.args.system.now) c.args.start c.args.end) c.args.start
    (record { key = c.row_at-first.ensures.0; phrase = c.row_at-first.result.phrase.now; freq = c.row_at-first.result.freq; time = c.row_at-first.result.time })
    c.row_at-first.ensures.1 there.0 there.1

pub loop-i-preserved : goal.loop-i-preserved
loop-i-preserved g c =
    let there = row_between (g.L.Lexicon.rows c.args.system.now) c.requires.key.0 c.args.start c.args.end c.loop-i.i
    (record { key = c.row_at-row.ensures.0; phrase = c.row_at-row.result.phrase.now; freq = c.row_at-row.result.freq; time = c.row_at-row.result.time })
    c.requires.key.1 c.loop-i-test.true c.row_at-row.ensures.1 in
    elim c.if-is_before.branch [
      | then-is_before w ↦ rw (w.place-is, w.first-is) (one_sooner (g.L.Lexicon.rows c.args.system.now) (rows_between (g.L.Lexicon.rows c.args.system.now) c.args.start c.args.end) c.loop-i.place (c.args.start + c.loop-i.i) c.loop-i.i
          (record { key = c.row_at-row.ensures.0; phrase = c.row_at-row.result.phrase.now; freq = c.row_at-row.result.freq; time = c.row_at-row.result.time })
          c.loop-i.first.phrase.now c.loop-i.first.freq c.loop-i.invariant c.row_at-row.ensures.1 there.0 there.1 (sym c.is_before.ensures ∙ w.if-is_before.true))
      | else-is_before w ↦ rw (w.place-is, w.first-is) (one_later (g.L.Lexicon.rows c.args.system.now) (rows_between (g.L.Lexicon.rows c.args.system.now) c.args.start c.args.end) c.loop-i.place c.loop-i.i
          (record { key = c.row_at-row.ensures.0; phrase = c.row_at-row.result.phrase.now; freq = c.row_at-row.result.freq; time = c.row_at-row.result.time })
          c.loop-i.first.phrase.now c.loop-i.first.freq c.loop-i.invariant there.0 there.1 (sym c.is_before.ensures ∙ w.if-is_before.false))
    ]
