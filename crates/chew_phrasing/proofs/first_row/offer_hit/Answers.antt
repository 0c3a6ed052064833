-- The hit is shown later, or fails, or is the first now.
use Rattle.std.proofs.Common.{sym, ap, ◌∙◌}
use Rattle.chew_spec_dictionary.specs.Call.{Hit}
use Rattle.chew_spec_phrasing.specs.Usable.{keeps_choices}
use Rattle.chew_phrasing.specs.Least.{keeps}
use Rattle.chew_phrasing.proofs.Offered.{hit_failed, hit_later, hit_taken}
use Rattle.chew_phrasing.proofs.first_row.offer_hit.Goals as goal

pub returns-then-not-comes_before : goal.returns-then-not-comes_before
returns-then-not-comes_before c = λ before h.
    hit_later (keeps c.args.choices.now c.args.at) before c.args.first.now h c.args.hit.now c.text.result.now c.hit.inside.freq
    (sym c.is_shown.ensures ∙ c.if-not-is_shown.false) (c.text.ensures.value ∙ ap (λ (x : Hit). x.phrase) c.hit.view_is) (ap (λ (x : Hit). x.freq) c.hit.view_is)
    (sym c.comes_before.ensures ∙ c.if-not-comes_before.true)

pub returns-then-not-keeps_choices : goal.returns-then-not-keeps_choices
returns-then-not-keeps_choices c = λ before h.
    hit_failed (keeps c.args.choices.now c.args.at) before c.args.first.now h c.args.hit.now
    (sym c.is_shown.ensures ∙ c.if-not-is_shown.false)
    (sym (c.keeps_choices.ensures ∙ ap (λ p. keeps_choices c.args.choices.now c.args.at p) (c.text-2.ensures.value ∙ ap (λ (x : Hit). x.phrase) c.hit.view_is)) ∙ c.if-not-keeps_choices.true)

pub returns : goal.returns
returns c = λ before h.
    hit_taken (keeps c.args.choices.now c.args.at) before c.args.first.now h c.args.hit.now c.as_shown.result c.text.result.now c.hit.inside.freq
    (sym c.is_shown.ensures ∙ c.if-not-is_shown.false) (c.text.ensures.value ∙ ap (λ (x : Hit). x.phrase) c.hit.view_is) (ap (λ (x : Hit). x.freq) c.hit.view_is)
    (sym c.comes_before.ensures ∙ c.if-not-comes_before.false)
    (sym (c.keeps_choices.ensures ∙ ap (λ p. keeps_choices c.args.choices.now c.args.at p) (c.text-2.ensures.value ∙ ap (λ (x : Hit). x.phrase) c.hit.view_is)) ∙ c.if-not-keeps_choices.false)
    c.as_shown.ensures
