-- The rows of the interval, in the order in which they are shown.
use Rattle.std.proofs.Common.{List, map, ◌++◌, ap, sym, ◌∙◌}
use Rattle.chew_spec_dictionary.specs.Call.{Hit}
use Rattle.chew_spec_dictionary.specs.Look.{Interval, codes_at, hit_of}
use Rattle.chew_plain.proofs.Looks.{interval_long, keys_as_long, shown_hits}
use Rattle.chew_plain.proofs.look.push_at.Goals as goal

pub as_hits-requires-clause-keys : goal.as_hits-requires-clause-keys
as_hits-requires-clause-keys c =
    keys_as_long c.args.pairs.now c.found_at-found.result.now (codes_at c.args.run.now c.args.at) c.at.inside.len c.found_at-found.ensures
    (interval_long c.args.run.now c.args.at c.requires.inside ∙ ap (λ (at : Interval). at.len) (sym c.at.view_is))

pub returns : goal.returns
returns c =
    c.in_ok-append.ensures.items
    ∙ ap (λ (l : List Hit). c.args.hits.now.items ++ l)
    (shown_hits c.args.pairs.now c.found_at-found.result.now c.args.run.now c.args.at _ _ c.found_at-found.ensures
    (c.in_ok-shown.ensures ∙ ap (λ (at : Interval). map (hit_of at) c.found_at-found.result.now) c.at.view_is)
    c.in_ok-sort_hits.ensures.ok)
