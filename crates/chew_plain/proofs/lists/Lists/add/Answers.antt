-- The row's list is added.
use Rattle.std.proofs.Common.{ℕ, ap, ap₂, sym, ◌∙◌, List}
use Rattle.chew_spec_syllable.specs.Row.{Row}
use Rattle.chew_spec_dictionary.specs.Dictionary.{is_map, put_row}
use Rattle.chew_spec_dictionary.specs.System.{rows_under}
use Rattle.chew_plain.specs.ByKey.{all_rows, are_own}
use Rattle.chew_plain.proofs.ByKey.{all_added, lists_added}
use Rattle.chew_plain.proofs.Outcomes.{either_way}
use Rattle.chew_plain.proofs.lists.Lists.add.Goals as goal

pub invariant_of-self-2 : goal.invariant_of-self-2
invariant_of-self-2 c =
    either_way c.insert.result c.insert.ensures.entries c.insert.ensures.err
    (λ added. let l = lists_added (λ list. list.items) c.args.row c.of-key.result c.self.inside.lists.entries c.insert.new.self.entries c.in_ok-list.list
    (record { map = c.self.invariant.0; own = c.self.invariant.1 }) c.insert.ensures.was_ordered
    (ap₂ (λ (l : List Row) (k : List ℕ). rows_under l k) c.self.view_is (sym (sym (ap (λ (r : Row). r.key) c.row.view_is) ∙ sym c.of-key.ensures)) ∙ c.requires)
    (sym (ap (λ (r : Row). r.key) c.row.view_is) ∙ sym c.of-key.ensures)
    c.in_ok-list.ensures.items added in (l.map, l.own))
    (λ kept. (ap (λ lists. is_map (all_rows (λ list. list.items) lists)) kept ∙ c.self.invariant.0, ap (λ lists. are_own (λ list. list.items) lists) kept ∙ c.self.invariant.1))

pub returns-clause-ok : goal.returns-clause-ok
returns-clause-ok c =
    all_added (λ list. list.items) c.args.row c.of-key.result c.self.inside.lists.entries c.insert.new.self.entries c.in_ok-list.list
    (record { map = c.self.invariant.0; own = c.self.invariant.1 }) c.insert.ensures.was_ordered
    (ap₂ (λ (l : List Row) (k : List ℕ). rows_under l k) c.self.view_is (sym (sym (ap (λ (r : Row). r.key) c.row.view_is) ∙ sym c.of-key.ensures)) ∙ c.requires)
    (sym (ap (λ (r : Row). r.key) c.row.view_is) ∙ sym c.of-key.ensures)
    c.in_ok-list.ensures.items c.in_ok-insert.ensures.entries
    ∙ ap (put_row c.args.row) c.self.view_is
