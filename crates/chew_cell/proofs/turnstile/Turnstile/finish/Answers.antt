-- The last state has the value at home.
use Rattle.std.proofs.Common.{sym, ap, ◌∙◌, subst, List, All, Contains}
use mathlib.Core.Option.{some-injective}
use Rattle.chew_spec_dictionary.specs.History.{Entry}
use Rattle.chew_cell.specs.Rule.{IsSightOf}
use Rattle.chew_cell.proofs.Ends.{rests}
use Rattle.chew_cell.proofs.Glue.{one-inside, none-inside}
use Rattle.chew_cell.proofs.turnstile.Turnstile.finish.Goals as goal

pub unreachable-requires : goal.unreachable-requires
unreachable-requires g c =
    let r = rests g.S.Chronicle.entries g.S.Chronicle.start _ _ _ _ _ c.requires.all c.requires.idle c.close_with-closed.ensures.values.2 in
    none-inside r.value (sym c.in-None.is ∙ some-injective _ _ (sym c.take-value.ensures.value ∙ r.there))

pub returns-clause-start : goal.returns-clause-start
returns-clause-start g c =
    let r = rests g.S.Chronicle.entries g.S.Chronicle.start _ _ _ _ _ c.requires.all c.requires.idle c.close_with-closed.ensures.values.2 in
    let same = one-inside c.in-Some.value r.value (sym c.in-Some.is ∙ some-injective _ _ (sym c.take-value.ensures.value ∙ r.there)) in
    ap g.S.Chronicle.start same ∙ r.start_is

pub returns-clause-seen : goal.returns-clause-seen
returns-clause-seen g c =
    let r = rests g.S.Chronicle.entries g.S.Chronicle.start _ _ _ _ _ c.requires.all c.requires.idle c.close_with-closed.ensures.values.2 in
    let same = one-inside c.in-Some.value r.value (sym c.in-Some.is ∙ some-injective _ _ (sym c.take-value.ensures.value ∙ r.there)) in
    subst (λ (l : List Entry). IsSightOf l c.args.seat.me.0.sight) (ap g.S.Chronicle.entries (sym same)) r.sight

pub returns-clause-numbers : goal.returns-clause-numbers
returns-clause-numbers g c =
    let r = rests g.S.Chronicle.entries g.S.Chronicle.start _ _ _ _ _ c.requires.all c.requires.idle c.close_with-closed.ensures.values.2 in
    let same = one-inside c.in-Some.value r.value (sym c.in-Some.is ∙ some-injective _ _ (sym c.take-value.ensures.value ∙ r.there)) in
    subst (λ (l : List Entry). All (λ (e : Entry). Contains c.args.seat.me.0.sight.numbers e.who) l) (ap g.S.Chronicle.entries (sym same)) r.known
