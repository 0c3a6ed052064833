-- One start more, until all are there.
use Rattle.std.proofs.Common.{List, ℕ, length, ◌∙◌, ap}
use Rattle.chew_spec_phrasing.specs.CombinedRows.{combined_hits}
use Rattle.chew_plain.proofs.Looks.{part_more, parts_all}
use Rattle.chew_phrasing.specs.Combine.{combined_from}
use Rattle.chew_phrasing.proofs.Combining.{all_combined}
use Rattle.chew_phrasing.proofs.combined.combine.Goals as goal

pub loop-start-preserved : goal.loop-start-preserved
loop-start-preserved g c =
    part_more (combined_from (g.L.Lexicon.rows c.args.system.now) c.list-syllables.result.now c.args.user.now) _ _ _ c.loop-start.start (length c.list-syllables.result.now) c.loop-start-test.true c.in_ok-push_from.ensures c.loop-start.invariant

pub returns : goal.returns
returns g c =
    let rows = g.L.Lexicon.rows c.args.system.now in
    let run = c.list-syllables.result.now in
    c.of.ensures
    ∙ (parts_all (combined_from rows run c.args.user.now) _ _ c.loop-start.start (length run) c.loop-start-test.false c.loop-start.invariant
    ∙ (all_combined rows run c.args.user.now ∙ ap (λ (list : List ℕ). combined_hits rows list c.args.user.now) c.list-syllables.ensures.value))
