-- The list is that of the definition.
use Rattle.std.proofs.Common.{◌≡◌, subst, sym, true, ◌<◌, ap, length, arith}
use Rattle.chew_spec_preedit.specs.Window.{Window, is_window}
use Rattle.chew_spec_preedit.proofs.Windows.{IsWindow-from, is_window-shorter}
use Rattle.chew_candidates.proofs.Seen.{shorter-seen}
use Rattle.chew_candidates.proofs.window.Window.shorter.Goals as goal

pub list_behind-list-requires : goal.list_behind-list-requires
list_behind-list-requires c = let h = IsWindow-from _ c.self.invariant in omega (arith, h.list, ap length c.as_slice.ensures.value)

pub returns : goal.returns
returns c =
    shorter-seen c.self.inside.place c.self.inside.lists.items c.self.inside.per_page c.self.inside.list c.self.inside.page c.args.self.now c.as_slice.result.now c.list_behind-list.result
    c.self.view_is c.as_slice.ensures.value c.list_behind-list.ensures

pub invariant_of-self : goal.invariant_of-self
invariant_of-self c =
    subst (λ (w : Window). is_window w ≡ true) (sym (returns c))
    (is_window-shorter c.args.self.now (subst (λ (w : Window). is_window w ≡ true) c.self.view_is c.self.invariant))
