-- A page has a candidate.
use Rattle.std.proofs.Common.{arith}
use Rattle.chew_spec_preedit.proofs.Windows.{IsWindow-from}
use Rattle.chew_candidates.proofs.window.Window.pages.Goals as goal

pub overflow_sub-result : goal.overflow_sub-result
overflow_sub-result c = let h = IsWindow-from _ c.self.invariant in omega (arith, h.some, c.from-per_page.ensures)

pub nonzero_div-result : goal.nonzero_div-result
nonzero_div-result c = let h = IsWindow-from _ c.self.invariant in omega (arith, h.some, c.from-per_page.ensures)
