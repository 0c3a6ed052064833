-- The rows of a place give the lists that all rows of the run give.
use Rattle.std.proofs.Common.{◌≡◌, ◌-◌, ℕ, List, ap, ap₂, arith, length, min, ◌∙◌}
use Rattle.std.proofs.lemmas.Result.{IfOk-weaker}
use Rattle.chew_spec_phrasing.specs.CombinedRows.{combined_hits}
use Rattle.chew_spec_preedit.specs.PlacedRun.{PlacedRun, breaks_in}
use Rattle.chew_spec_preedit.specs.Window.{candidate_lists}
use Rattle.chew_phrasing.specs.Combine.{combined_from}
use Rattle.chew_editor.specs.Lists.{lists_from}
use Rattle.chew_editor.proofs.CandidateLists.{lists-combined}
use Rattle.chew_editor.proofs.FinishedState.{least}
use Rattle.chew_editor.proofs.candidates.lists_at.Goals as goal

pub returns : goal.returns
returns g c =
    let system = g.L.Lexicon.rows c.args.system.now in
    let run = c.args.run.now in
    let hits = c.args.hits.now in
    let place = c.args.place in
    let breaks = breaks_in run c.args.preedit.now.breaks in
    let codes = ap (λ (r : PlacedRun). r.codes) c.run.view_is in
    let longest : c.min-longest.result ≡ min 11 (length run.codes - place) =
    omega (arith, c.min-longest.ensures ∙ least 11 (length c.list.result.now - c.from.result), ap length c.list.ensures.value, ap length codes, c.from.ensures) in
    IfOk-weaker c.lists_from.result _ (λ lists. lists.items ≡ candidate_lists (combined_hits system run.codes hits) breaks (length run.codes) place)
    (λ lists e. e
    ∙ (ap₂ (λ rows bs. lists_from rows bs place c.min-longest.result)
    (c.list-2.ensures.value ∙ (c.in_ok-rows.ensures ∙ ap (λ (cs : List ℕ). combined_from system cs hits place) codes))
    (c.as_slice.ensures.value ∙ c.breaks_in-breaks.ensures)
    ∙ (ap (lists_from (combined_from system run.codes hits place) breaks place) longest
    ∙ lists-combined system run.codes hits breaks place c.requires)))
    c.lists_from.ensures
