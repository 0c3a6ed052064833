-- The page begins among the rows.
use Rattle.std.proofs.Common.{arith, ◌∙◌}
use Rattle.chew_spec_preedit.proofs.Windows.{IsWindow-from}
use Rattle.chew_candidates.proofs.Seen.{on_page-seen, start-within}
use Rattle.chew_candidates.proofs.window.Window.on_page.Goals as goal

pub overflow_sub-start : goal.overflow_sub-start
overflow_sub-start c = let h = IsWindow-from _ c.self.invariant in omega (arith, h.page)

pub overflow_mul-start : goal.overflow_mul-start
overflow_mul-start c =
    let within = start-within _ c.args.self.now c.rows-rows.result.now c.from-per_page.result c.self.view_is c.self.invariant c.rows-rows.ensures c.from-per_page.ensures in
    omega (arith, within)

pub page_from-requires : goal.page_from-requires
page_from-requires c =
    let within = start-within _ c.args.self.now c.rows-rows.result.now c.from-per_page.result c.self.view_is c.self.invariant c.rows-rows.ensures c.from-per_page.ensures in
    omega (arith, within)

pub returns : goal.returns
returns c = c.page_from.ensures ∙ on_page-seen _ c.args.self.now c.rows-rows.result.now c.from-per_page.result c.self.view_is c.rows-rows.ensures c.from-per_page.ensures
