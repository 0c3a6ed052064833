-- The row goes into its key's list, or gets a list of its own.
use Rattle.std.proofs.Common.{◌≡◌, ℕ, not, is_some, IfOk, None, Option, List, refl, ap, ap₂, sym, subst, ◌∙◌}
use Rattle.std.specs.BTreeMap.{is_at}
use Rattle.std.specs.Map.{set_value}
use Rattle.chew_spec_syllable.specs.Row.{Row}
use Rattle.chew_spec_dictionary.specs.Dictionary.{put_row}
use Rattle.chew_spec_dictionary.specs.System.{row_of, rows_under}
use Rattle.chew_plain.specs.Order.{key_cmp}
use Rattle.chew_plain.specs.ByKey.{all_rows}
use Rattle.chew_plain.proofs.ByKey.{all_put_row, all_same, had_is_map, had_row, listed, lists_put_row, lists_same, row_under}
use Rattle.chew_plain.proofs.Outcomes.{either_way, on_err, on_ok}
use Rattle.chew_plain.proofs.lists.Lists.put.Goals as goal

pub put-requires : goal.put-requires
put-requires c = record {
  map = had_is_map (λ list. list.items) c.of.result c.self.inside.lists.entries (set_value (is_at (key_cmp c.of.result)) c.self.inside.lists.entries c.in-Some.list.now) c.in-Some.list.now c.in-Some.list.now
      (record { map = c.self.invariant.0; own = c.self.invariant.1 }) c.in-Some.ensures.ordered c.in-Some.ensures.value refl;
}

pub invariant_of-self : goal.invariant_of-self
invariant_of-self c =
    either_way c.put.result c.put.ensures.ok c.put.ensures.err
    (λ done. let l = lists_put_row (λ list. list.items) c.of.result c.self.inside.lists.entries (c.get_mut.follows.lender c.put.new.rows).entries c.in-Some.list.now c.put.new.rows (record { map = c.self.invariant.0; own = c.self.invariant.1 }) c.in-Some.ensures.ordered c.in-Some.ensures.value (c.get_mut.follows.holds c.put.new.rows).0 c.args.row
    (sym (ap (λ (r : Row). r.key) c.row.view_is) ∙ sym c.of.ensures) done in (l.map, l.own))
    (λ kept. let l = lists_same (λ list. list.items) c.of.result c.self.inside.lists.entries (c.get_mut.follows.lender c.put.new.rows).entries c.in-Some.list.now c.put.new.rows (record { map = c.self.invariant.0; own = c.self.invariant.1 }) c.in-Some.ensures.ordered c.in-Some.ensures.value (c.get_mut.follows.holds c.put.new.rows).0 kept in (l.map, l.own))

pub add-requires : goal.add-requires
add-requires c =
    ap (λ m. rows_under (all_rows (λ list. list.items) m.entries) c.args.row.key) c.get_mut.follows.holds-at-none
    ∙ ap (rows_under (all_rows (λ list. list.items) c.self.inside.lists.entries)) (sym (ap (λ (r : Row). r.key) c.row.view_is) ∙ sym c.of.ensures)
    ∙ sym (listed (λ list. list.items) c.of.result c.self.inside.lists.entries (all_rows (λ list. list.items) c.self.inside.lists.entries) None c.in-None.ensures.value c.in-None.ensures.ordered c.self.invariant.1 refl)

pub returns-in-Some-clause-new : goal.returns-in-Some-clause-new
returns-in-Some-clause-new c =
    subst (λ (o : Option Row). IfOk c.put.result (λ new. new ≡ not (is_some o)))
    (ap (λ (k : List ℕ). row_of c.in-Some.list.now.items k c.args.row.phrase) (sym (ap (λ (r : Row). r.key) c.row.view_is) ∙ sym c.of.ensures)
    ∙ had_row (λ list. list.items) c.of.result c.self.inside.lists.entries (c.get_mut.follows.lender c.put.new.rows).entries c.in-Some.list.now c.put.new.rows (record { map = c.self.invariant.0; own = c.self.invariant.1 }) c.in-Some.ensures.ordered c.in-Some.ensures.value (c.get_mut.follows.holds c.put.new.rows).0 c.args.row.phrase
    ∙ ap₂ (λ (l : List Row) (k : List ℕ). row_of l k c.args.row.phrase) c.self.view_is (sym (sym (ap (λ (r : Row). r.key) c.row.view_is) ∙ sym c.of.ensures)))
    c.put.ensures.new

pub returns-in-Some-clause-ok : goal.returns-in-Some-clause-ok
returns-in-Some-clause-ok c =
    on_ok c.put.result
    (λ done. all_put_row (λ list. list.items) c.of.result c.self.inside.lists.entries (c.get_mut.follows.lender c.put.new.rows).entries c.in-Some.list.now c.put.new.rows (record { map = c.self.invariant.0; own = c.self.invariant.1 }) c.in-Some.ensures.ordered c.in-Some.ensures.value (c.get_mut.follows.holds c.put.new.rows).0 c.args.row
    (sym (ap (λ (r : Row). r.key) c.row.view_is) ∙ sym c.of.ensures) done ∙ ap (put_row c.args.row) c.self.view_is)
    c.put.ensures.ok

pub returns-in-Some-clause-err : goal.returns-in-Some-clause-err
returns-in-Some-clause-err c =
    on_err c.put.result
    (λ kept. all_same (λ list. list.items) c.of.result c.self.inside.lists.entries (c.get_mut.follows.lender c.put.new.rows).entries c.in-Some.list.now c.put.new.rows (record { map = c.self.invariant.0; own = c.self.invariant.1 }) c.in-Some.ensures.ordered c.in-Some.ensures.value (c.get_mut.follows.holds c.put.new.rows).0 kept ∙ c.self.view_is)
    c.put.ensures.err

pub returns-in_ok-add-in-None-clause-new : goal.returns-in_ok-add-in-None-clause-new
returns-in_ok-add-in-None-clause-new c =
    ap (λ (l : List Row). not (is_some (row_of l c.args.row.key c.args.row.phrase)))
    (listed (λ list. list.items) c.of.result c.self.inside.lists.entries c.args.self.now None c.in-None.ensures.value c.in-None.ensures.ordered c.self.invariant.1 c.self.view_is
    ∙ ap (rows_under c.args.self.now) (sym (sym (ap (λ (r : Row). r.key) c.row.view_is) ∙ sym c.of.ensures)))
    ∙ ap (λ (o : Option Row). not (is_some o)) (row_under c.args.row.key c.args.row.phrase c.args.self.now)
