-- The hits that are shown and the system's free rows, in the order in which they are shown.
use Rattle.std.proofs.Common.{◌+◌, ◌-◌, List, ◌++◌, take, drop, map, filter, ap, ◌∙◌}
use Rattle.chew_spec_dictionary.specs.Call.{Hit}
use Rattle.chew_spec_dictionary.specs.System.{rows_of}
use Rattle.chew_spec_phrasing.specs.CombinedRows.{as_shown, is_free_of, is_shown, shown_hit}
use Rattle.chew_phrasing.proofs.Combining.{codes_between, combined_from_sorted}
use Rattle.chew_phrasing.proofs.combined.push_at.Goals as goal

pub returns : goal.returns
returns g c =
    let system = g.L.Lexicon.rows c.args.system.now in
    let run = c.args.run.now in
    let at = c.args.at in
    let key = take (c.at.inside.start + c.at.inside.len - c.at.inside.start) (drop c.at.inside.start run) in
    c.in_ok-append-2.ensures.items
    ∙ ap (λ (l : List Hit). c.args.hits.now.items ++ l)
    (combined_from_sorted system run key c.args.user.now at c.in_ok-found.found.items c.in_ok-shown.shown.items c.in_ok-free.free.items _ _ c.requires.inside (codes_between run at c.at.inside.start c.at.inside.len c.at.view_is) c.in_ok-found.ensures
    (c.in_ok-shown.ensures ∙ ap (λ (hits : List Hit). map as_shown (filter is_shown hits)) c.deref.ensures.value)
    (c.in_ok-free.ensures ∙ ap (λ (hits : List Hit). map (shown_hit at) (filter (is_free_of hits) (rows_of system key))) c.deref-2.ensures.value)
    c.in_ok-append.ensures.items c.in_ok-sort_hits.ensures.ok)
