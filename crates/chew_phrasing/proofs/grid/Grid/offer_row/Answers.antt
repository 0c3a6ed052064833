-- The row reaches past the run, or its interval has a piece, or a break or a choice bars it, or it becomes the piece.
use Rattle.std.proofs.Common.{[], ◌∷◌, ◌++◌, sym, ap, ap₂, ◌∙◌, subst, arith}
use Rattle.chew_spec_dictionary.specs.Call.{Hit}
use Rattle.chew_spec_dictionary.specs.Look.{Interval}
use Rattle.chew_spec_phrasing.specs.Usable.{piece_at}
use Rattle.chew_phrasing.specs.Grid.{Grid, IsGrid, put_in}
use Rattle.chew_phrasing.proofs.Offers.{row_barred, row_beyond, row_put, row_taken}
use Rattle.chew_phrasing.proofs.HitRanges.{HasLengths-from_is_hit}
use Rattle.chew_phrasing.proofs.grid.Grid.offer_row.Goals as goal

pub returns-then-start-len-clause-grid : goal.returns-then-start-len-clause-grid
returns-then-start-len-clause-grid c = λ before h.
    let cells = ap (λ (g : Grid). g.cells) c.self.view_is in
    let start = c.from-start.ensures ∙ ap (λ (x : Hit). x.start) c.row.view_is in
    let len = c.from-len.ensures ∙ ap (λ (x : Hit). x.len) c.row.view_is in
    row_beyond c.args.breaks.now c.args.choices.now before c.args.row.now c.args.self.now (let past = c.if-start-len.true in omega arith) h

pub returns-then-not-is_free-clause-grid : goal.returns-then-not-is_free-clause-grid
returns-then-not-is_free-clause-grid c = λ before h.
    let cells = ap (λ (g : Grid). g.cells) c.self.view_is in
    let start = c.from-start.ensures ∙ ap (λ (x : Hit). x.start) c.row.view_is in
    let len = c.from-len.ensures ∙ ap (λ (x : Hit). x.len) c.row.view_is in
    let sizes = HasLengths-from_is_hit (record { start = c.row.inside.start; len = c.row.inside.len; phrase = c.row.inside.phrase; freq = c.row.inside.freq; hidden = c.row.inside.hidden }) c.row.invariant in
    row_taken c.args.breaks.now c.args.choices.now before c.args.row.now c.args.self.now (record { start = c.from-start.result; len = c.from-len.result })
    (ap₂ (λ s k. record { start = s; len = k }) start len)
    (record { some = omega (arith, sizes.some); short = omega (arith, sizes.few); within = let inside = c.if-start-len.false in omega arith })
    (sym c.is_free.ensures ∙ c.if-not-is_free.true) h

pub returns-then-not-may_stand-clause-grid : goal.returns-then-not-may_stand-clause-grid
returns-then-not-may_stand-clause-grid c = λ before h.
    let cells = ap (λ (g : Grid). g.cells) c.self.view_is in
    let start = c.from-start.ensures ∙ ap (λ (x : Hit). x.start) c.row.view_is in
    let len = c.from-len.ensures ∙ ap (λ (x : Hit). x.len) c.row.view_is in
    let sizes = HasLengths-from_is_hit (record { start = c.row.inside.start; len = c.row.inside.len; phrase = c.row.inside.phrase; freq = c.row.inside.freq; hidden = c.row.inside.hidden }) c.row.invariant in
    row_barred c.args.breaks.now c.args.choices.now before c.args.row.now c.args.self.now (record { start = c.from-start.result; len = c.from-len.result })
    (ap₂ (λ s k. record { start = s; len = k }) start len)
    (record { some = omega (arith, sizes.some); short = omega (arith, sizes.few); within = let inside = c.if-start-len.false in omega arith })
    (sym c.may_stand.ensures ∙ c.if-not-may_stand.true) h

pub returns-clause-grid : goal.returns-clause-grid
returns-clause-grid c = λ before h.
    let cells = ap (λ (g : Grid). g.cells) c.self.view_is in
    let start = c.from-start.ensures ∙ ap (λ (x : Hit). x.start) c.row.view_is in
    let len = c.from-len.ensures ∙ ap (λ (x : Hit). x.len) c.row.view_is in
    let sizes = HasLengths-from_is_hit (record { start = c.row.inside.start; len = c.row.inside.len; phrase = c.row.inside.phrase; freq = c.row.inside.freq; hidden = c.row.inside.hidden }) c.row.invariant in
    let here : Interval = record { start = c.from-start.result; len = c.from-len.result } in
    subst (IsGrid (piece_at (before ++ (c.args.row.now ∷ [])) c.args.breaks.now c.args.choices.now)) (sym (c.put.ensures.value ∙ ap (put_in c.args.self.now here) c.piece_of_hit.ensures))
    (row_put c.args.breaks.now c.args.choices.now before c.args.row.now c.args.self.now here
    (ap₂ (λ s k. record { start = s; len = k }) start len)
    c.put.ensures.whole
    (record { some = omega (arith, sizes.some); short = omega (arith, sizes.few); within = let inside = c.if-start-len.false in omega arith })
    (sym c.is_free.ensures ∙ c.if-not-is_free.false) (sym c.may_stand.ensures ∙ c.if-not-may_stand.false) h)
