-- The page is that of the definition.
use Rattle.std.proofs.Common.{◌≡◌, subst, sym, true, arith}
use Rattle.chew_spec_preedit.specs.Window.{Window, is_window}
use Rattle.chew_spec_preedit.proofs.Windows.{IsWindow-from, is_window-next_page}
use Rattle.chew_candidates.proofs.Seen.{next_page-seen}
use Rattle.chew_candidates.proofs.window.Window.page_next.Goals as goal

pub page_behind-page-requires : goal.page_behind-page-requires
page_behind-page-requires c = let v = IsWindow-from c.args.self.now c.page_number.ensures.valid in omega (arith, v.within, c.page_number.ensures.value, c.pages.ensures)

pub returns : goal.returns
returns c =
    next_page-seen c.self.inside.place c.self.inside.lists.items c.self.inside.per_page c.self.inside.list c.self.inside.page c.args.self.now c.page_number.result c.pages.result c.page_behind-page.result
    c.self.view_is c.page_number.ensures.value c.pages.ensures c.page_behind-page.ensures

pub invariant_of-self : goal.invariant_of-self
invariant_of-self c = subst (λ (w : Window). is_window w ≡ true) (sym (returns c)) (is_window-next_page c.args.self.now c.page_number.ensures.valid)
