-- The visible rows of the interval's key, in the order in which they are shown.
use Rattle.std.proofs.Common.{ap, sym, ◌∙◌, length, map, List, ℕ}
use Rattle.chew_spec_dictionary.specs.Look.{Interval, codes_at, hit_of}
use Rattle.chew_plain.specs.Look.{interval}
use Rattle.chew_plain.proofs.Looks.{interval_long}
use Rattle.chew_layers.specs.Visible.{visible_rows}
use Rattle.chew_layers.proofs.Shown.{sorted_hits}
use Rattle.chew_layers.proofs.held.hits_at.Goals as goal

pub returns : goal.returns
returns c =
    let rows = visible_rows c.args.held.base.now c.args.held.frozen.now c.args.held.fresh.now in
    sorted_hits c.args.held.base.now c.args.held.frozen.now c.args.held.fresh.now c.keeps.ensures.map c.keeps.ensures.frozen c.keeps.ensures.fresh c.args.run.now c.args.at
    c.in_ok-hits.hits.items c.sort_hits.new.hits.items
    (c.in_ok-hits.ensures
    ∙ ap (λ (k : List ℕ). map (hit_of (interval c.at.inside.start (length k))) (rows k)) c.key_at-key.ensures
    ∙ ap (λ (at : Interval). map (hit_of at) (rows (codes_at c.args.run.now c.args.at)))
    (ap (interval c.at.inside.start) (interval_long c.args.run.now c.args.at c.requires.inside ∙ ap (λ (at : Interval). at.len) (sym c.at.view_is)) ∙ c.at.view_is))
    c.in_ok-sort_hits.ensures.ok
