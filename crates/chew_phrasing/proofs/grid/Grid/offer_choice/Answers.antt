-- The choice reaches past the run, or its cells have a piece, or it becomes their piece.
use Rattle.std.proofs.Common.{[], ◌∷◌, ◌++◌, sym, ap, ap₂, ◌∙◌, subst, arith}
use Rattle.chew_spec_dictionary.specs.Look.{Interval}
use Rattle.chew_spec_phrasing.specs.Usable.{Choice, phrase_len, piece_at}
use Rattle.chew_phrasing.specs.Grid.{Grid, IsGrid, put_in}
use Rattle.chew_phrasing.proofs.Offers.{choice_beyond, choice_put, choice_taken}
use Rattle.chew_phrasing.proofs.grid.Grid.offer_choice.Goals as goal

pub returns-then-start-len-clause-grid : goal.returns-then-start-len-clause-grid
returns-then-start-len-clause-grid c = λ breaks before h.
    let cells = ap (λ (g : Grid). g.cells) c.self.view_is in
    let start = c.from-start.ensures ∙ ap (λ (x : Choice). x.start) c.choice.view_is in
    let len = c.characters-len.ensures.value ∙ ap (λ (x : Choice). phrase_len x.phrase) c.choice.view_is in
    choice_beyond breaks before c.args.choice.now c.args.self.now (let past = c.if-start-len.true in omega arith) h

pub returns-then-not-is_free-clause-grid : goal.returns-then-not-is_free-clause-grid
returns-then-not-is_free-clause-grid c = λ breaks before h.
    let cells = ap (λ (g : Grid). g.cells) c.self.view_is in
    let start = c.from-start.ensures ∙ ap (λ (x : Choice). x.start) c.choice.view_is in
    let len = c.characters-len.ensures.value ∙ ap (λ (x : Choice). phrase_len x.phrase) c.choice.view_is in
    choice_taken breaks before c.args.choice.now c.args.self.now (record { start = c.from-start.result; len = c.characters-len.result })
    (ap₂ (λ s k. record { start = s; len = k }) start len)
    (record { some = c.characters-len.ensures.some; short = c.characters-len.ensures.few; within = let inside = c.if-start-len.false in omega arith })
    (sym c.is_free.ensures ∙ c.if-not-is_free.true) h

pub returns-clause-grid : goal.returns-clause-grid
returns-clause-grid c = λ breaks before h.
    let cells = ap (λ (g : Grid). g.cells) c.self.view_is in
    let start = c.from-start.ensures ∙ ap (λ (x : Choice). x.start) c.choice.view_is in
    let len = c.characters-len.ensures.value ∙ ap (λ (x : Choice). phrase_len x.phrase) c.choice.view_is in
    let here : Interval = record { start = c.from-start.result; len = c.characters-len.result } in
    subst (IsGrid (piece_at [] breaks (before ++ (c.args.choice.now ∷ [])))) (sym (c.put.ensures.value ∙ ap (put_in c.args.self.now here) c.piece_of_choice.ensures))
    (choice_put breaks before c.args.choice.now c.args.self.now here
    (ap₂ (λ s k. record { start = s; len = k }) start len)
    c.put.ensures.whole
    (record { some = c.characters-len.ensures.some; short = c.characters-len.ensures.few; within = let inside = c.if-start-len.false in omega arith })
    (sym c.is_free.ensures ∙ c.if-not-is_free.false) h)
