-- One choice more, until all are there.
use Rattle.std.proofs.Common.{◌≤◌, ◌++◌, ◌∷◌, [], All, take, sym, ap, ◌∙◌, subst}
use Rattle.std.proofs.lemmas.List.{take_all, take_more}
use Rattle.std.proofs.lemmas.List.Elements.{All-push}
use Rattle.chew_spec_phrasing.specs.Usable.{phrase_len, piece_at}
use Rattle.chew_phrasing.specs.Grid.{IsGrid}
use Rattle.chew_phrasing.proofs.grid.Grid.of_choices.Goals as goal

pub loop-choice-preserved : goal.loop-choice-preserved
loop-choice-preserved c =
    let next = take_more c.args.choices.now c.loop-choice.choice-index c.choice-item.result c.loop-choice-test.true
    ∙ ap (λ choice. take c.loop-choice.choice-index c.args.choices.now ++ (choice ∷ [])) (sym c.choice-item.is) in
    record {
      cells = c.offer_choice.ensures.cells ∙ c.loop-choice.invariant.cells;
      short = subst (All (λ choice. phrase_len choice.phrase ≤ 11)) (sym next)
          (All-push (λ choice. phrase_len choice.phrase ≤ 11) (take c.loop-choice.choice-index c.args.choices.now) c.choice-item.result c.loop-choice.invariant.short c.offer_choice.ensures.short);
      grid = λ breaks. subst (λ choices. IsGrid (piece_at [] breaks choices) c.offer_choice.new.self) (sym next)
          (c.offer_choice.ensures.grid breaks (take c.loop-choice.choice-index c.args.choices.now) (c.loop-choice.invariant.grid breaks));
    }

pub returns-clause-short : goal.returns-clause-short
returns-clause-short c =
    subst (All (λ choice. phrase_len choice.phrase ≤ 11)) (take_all c.loop-choice.choice-index c.args.choices.now c.loop-choice-test.false) c.loop-choice.invariant.short

pub returns-clause-grid : goal.returns-clause-grid
returns-clause-grid c = λ breaks.
    subst (λ choices. IsGrid (piece_at [] breaks choices) c.loop-choice.grid) (take_all c.loop-choice.choice-index c.args.choices.now c.loop-choice-test.false) (c.loop-choice.invariant.grid breaks)
