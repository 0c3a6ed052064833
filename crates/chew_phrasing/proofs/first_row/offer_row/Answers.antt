-- The row is shown later, or fails, or a hit has its phrase, or it is the first now.
use Rattle.std.proofs.Common.{sym, ◌∙◌}
use Rattle.chew_phrasing.specs.Least.{keeps}
use Rattle.chew_phrasing.proofs.Offered.{row_failed, row_had, row_later, row_taken}
use Rattle.chew_phrasing.proofs.first_row.offer_row.Goals as goal

pub returns-then-not-comes_before : goal.returns-then-not-comes_before
returns-then-not-comes_before c = λ before h.
    row_later (keeps c.args.choices.now c.args.at) before c.args.first.now h c.args.found.now c.args.at c.args.phrase.now c.args.freq (sym c.comes_before.ensures ∙ c.if-not-comes_before.true)

pub returns-then-not-keeps_choices : goal.returns-then-not-keeps_choices
returns-then-not-keeps_choices c = λ before h.
    row_failed (keeps c.args.choices.now c.args.at) before c.args.first.now h c.args.found.now c.args.at c.args.phrase.now c.args.freq (sym c.keeps_choices.ensures ∙ c.if-not-keeps_choices.true)

pub returns-then-is_taken : goal.returns-then-is_taken
returns-then-is_taken c = λ before h.
    row_had (keeps c.args.choices.now c.args.at) before c.args.first.now h c.args.found.now c.args.at c.args.phrase.now c.args.freq (sym c.is_taken.ensures ∙ c.if-is_taken.true)

pub returns : goal.returns
returns c = λ before h.
    row_taken (keeps c.args.choices.now c.args.at) before c.args.first.now h c.args.found.now c.args.at c.args.phrase.now c.args.freq c.as_hit.result
    (sym c.is_taken.ensures ∙ c.if-is_taken.false) (sym c.comes_before.ensures ∙ c.if-not-comes_before.false) (sym c.keeps_choices.ensures ∙ c.if-not-keeps_choices.false) c.as_hit.ensures
