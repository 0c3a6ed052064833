-- The key's list, or nothing where it has none.
use Rattle.std.proofs.Common.{Some, None, ap, ◌∙◌, List, ℕ}
use Rattle.std.specs.BTreeMap.{is_at}
use Rattle.std.specs.Map.{lookup}
use Rattle.chew_plain.specs.Order.{key_cmp}
use Rattle.chew_plain.proofs.ByKey.{listed}
use Rattle.chew_plain.proofs.lists.Lists.under.Goals as goal

pub returns-in-Some-clause-value : goal.returns-in-Some-clause-value
returns-in-Some-clause-value c =
    c.as_slice.ensures.value
    ∙ listed (λ list. list.items) c.args.key.now c.self.inside.lists.entries c.args.self.now (Some c.in-Some.list.now)
    (c.in-Some.ensures.value ∙ ap (λ (k : List ℕ). lookup (is_at (key_cmp k)) c.self.inside.lists.entries) c.of.ensures) c.len-lists.ensures.ordered c.self.invariant.1 c.self.view_is

pub returns-in-None-clause-value : goal.returns-in-None-clause-value
returns-in-None-clause-value c =
    listed (λ list. list.items) c.args.key.now c.self.inside.lists.entries c.args.self.now None
    (c.in-None.ensures.value ∙ ap (λ (k : List ℕ). lookup (is_at (key_cmp k)) c.self.inside.lists.entries) c.of.ensures) c.len-lists.ensures.ordered c.self.invariant.1 c.self.view_is
