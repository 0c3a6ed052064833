-- One row of the system more.
use Rattle.std.proofs.Common.{◌-◌, ◌++◌, List, filter, map, take, drop, append_assoc, append-nil, sym, ap, ◌∙◌, subst, arith}
use Rattle.std.proofs.lemmas.List.{length-take, take_all}
use Rattle.chew_spec_syllable.specs.Row.{Row}
use Rattle.chew_spec_dictionary.specs.Call.{Hit}
use Rattle.chew_spec_phrasing.specs.CombinedRows.{is_free_of, shown_hit}
use Rattle.chew_phrasing.specs.FirstPlace.{rows_between}
use Rattle.chew_phrasing.specs.Least.{IsLeast, free_one, keeps}
use Rattle.chew_phrasing.proofs.Offered.{rows_more}
use Rattle.chew_phrasing.proofs.SystemRows.{row_between, row_of_key}
use Rattle.chew_phrasing.proofs.first_row.walk.Goals as goal

pub loop-i-init : goal.loop-i-init
loop-i-init g c = λ before h.
    subst (λ (hits : List Hit). IsLeast (keeps c.args.choices.now c.args.at) hits c.args.first) (sym (append-nil before)) h

pub offer_row-requires-clause-phrase : goal.offer_row-requires-clause-phrase
offer_row-requires-clause-phrase g c =
    (row_of_key (g.L.Lexicon.rows c.args.system.now) c.requires.key.0 c.args.start c.args.end c.loop-i.i
    (record { key = c.row_at-row.ensures.0; phrase = c.row_at-row.result.phrase.now; freq = c.row_at-row.result.freq; time = c.row_at-row.result.time })
    c.requires.key.1.together c.requires.key.1.within c.requires.key.1.each c.loop-i-test.true c.row_at-row.ensures.1).phrase

pub offer_row-requires-clause-long : goal.offer_row-requires-clause-long
offer_row-requires-clause-long g c =
    (row_of_key (g.L.Lexicon.rows c.args.system.now) c.requires.key.0 c.args.start c.args.end c.loop-i.i
    (record { key = c.row_at-row.ensures.0; phrase = c.row_at-row.result.phrase.now; freq = c.row_at-row.result.freq; time = c.row_at-row.result.time })
    c.requires.key.1.together c.requires.key.1.within c.requires.key.1.each c.loop-i-test.true c.row_at-row.ensures.1).long
    ∙ c.requires.key.2

pub offer_row-requires-clause-freq : goal.offer_row-requires-clause-freq
offer_row-requires-clause-freq g c =
    (row_of_key (g.L.Lexicon.rows c.args.system.now) c.requires.key.0 c.args.start c.args.end c.loop-i.i
    (record { key = c.row_at-row.ensures.0; phrase = c.row_at-row.result.phrase.now; freq = c.row_at-row.result.freq; time = c.row_at-row.result.time })
    c.requires.key.1.together c.requires.key.1.within c.requires.key.1.each c.loop-i-test.true c.row_at-row.ensures.1).freq

pub loop-i-preserved : goal.loop-i-preserved
loop-i-preserved g c = λ before h.
    let there = row_between (g.L.Lexicon.rows c.args.system.now) c.requires.key.0 c.args.start c.args.end c.loop-i.i
    (record { key = c.row_at-row.ensures.0; phrase = c.row_at-row.result.phrase.now; freq = c.row_at-row.result.freq; time = c.row_at-row.result.time })
    c.requires.key.1 c.loop-i-test.true c.row_at-row.ensures.1 in
    let rows = (rows_between (g.L.Lexicon.rows c.args.system.now) c.args.start c.args.end) in
    subst (λ (hits : List Hit). IsLeast (keeps c.args.choices.now c.args.at) hits c.offer_row.new.first)
    (append_assoc before (map (shown_hit c.args.at) (filter (is_free_of c.args.found.now) (take c.loop-i.i rows))) (free_one c.args.found.now c.args.at c.row_at-row.result.phrase.now c.row_at-row.result.freq)
    ∙ ap (λ (hits : List Hit). before ++ hits) (sym (rows_more c.args.found.now c.args.at rows c.loop-i.i
    (record { key = c.row_at-row.ensures.0; phrase = c.row_at-row.result.phrase.now; freq = c.row_at-row.result.freq; time = c.row_at-row.result.time })
    there.0 there.1)))
    (c.offer_row.ensures (before ++ map (shown_hit c.args.at) (filter (is_free_of c.args.found.now) (take c.loop-i.i rows))) (c.loop-i.invariant before h))

pub returns : goal.returns
returns g c = λ before h.
    subst (λ (rows : List Row). IsLeast (keeps c.args.choices.now c.args.at) (before ++ map (shown_hit c.args.at) (filter (is_free_of c.args.found.now) rows)) c.loop-i.best)
    (take_all c.loop-i.i (rows_between (g.L.Lexicon.rows c.args.system.now) c.args.start c.args.end)
    (omega (arith, length-take (c.args.end - c.args.start) (drop c.args.start (g.L.Lexicon.rows c.args.system.now)), c.loop-i-test.false)))
    (c.loop-i.invariant before h)
