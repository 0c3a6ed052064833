-- The page is that of the definition.
use Rattle.std.proofs.Common.{◌≡◌, subst, sym, true, arith}
use Rattle.chew_spec_preedit.specs.Window.{Window, is_window}
use Rattle.chew_spec_preedit.proofs.Windows.{IsWindow-from, is_window-page_before}
use Rattle.chew_candidates.proofs.Seen.{page_before-seen}
use Rattle.chew_candidates.proofs.window.Window.page_back.Goals as goal

pub page_before-page-requires : goal.page_before-page-requires
page_before-page-requires c = let v = IsWindow-from c.args.self.now c.page_number.ensures.valid in omega (arith, v.page, c.page_number.ensures.value, c.pages.ensures)

pub returns : goal.returns
returns c =
    page_before-seen c.self.inside.place c.self.inside.lists.items c.self.inside.per_page c.self.inside.list c.self.inside.page c.args.self.now c.page_number.result c.pages.result c.page_before-page.result
    c.self.view_is c.page_number.ensures.value c.pages.ensures c.page_before-page.ensures

pub invariant_of-self : goal.invariant_of-self
invariant_of-self c = subst (λ (w : Window). is_window w ≡ true) (sym (returns c)) (is_window-page_before c.args.self.now c.page_number.ensures.valid)
