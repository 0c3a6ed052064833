-- The greatest of the visible rows of the key.
use Rattle.std.proofs.Common.{ap, ◌∙◌, ◌+◌, ◌≤◌, length, subst, List, ℕ}
use Rattle.chew_plain.specs.Look.{interval}
use Rattle.chew_layers.specs.GreatestFrequency.{greatest_of_shown}
use Rattle.chew_layers.proofs.Saying.{key_short}
use Rattle.chew_layers.proofs.Shown.{most_shown}
use Rattle.chew_layers.proofs.held.Held.greatest_shown.Goals as goal

pub visible_hits-requires : goal.visible_hits-requires
visible_hits-requires c = record { inside = subst (λ (l : List ℕ). 0 + length l ≤ 39) c.list-syllables.ensures.value (key_short c.list-syllables.result.now c.list-syllables.ensures.valid) }

pub returns-clause-value : goal.returns-clause-value
returns-clause-value c =
    c.greatest_shown.ensures.value ∙ ap greatest_of_shown c.as_slice.ensures.value
    ∙ most_shown c.args.self.base.now c.args.self.frozen.now c.args.self.fresh.now c.keeps.ensures.map c.keeps.ensures.frozen c.keeps.ensures.fresh c.args.key.now
    (interval 0 (length c.args.key.now)) c.in_ok-hits.hits.items c.in_ok-hits.ensures
