-- The pair is taken out of its key's list.
use Rattle.std.proofs.Common.{ℕ, is_some, None, List, refl, ap, ap₂, sym, ◌∙◌}
use Rattle.std.specs.BTreeMap.{is_at}
use Rattle.std.specs.Map.{set_value}
use Rattle.chew_spec_syllable.specs.Row.{Row}
use Rattle.chew_spec_dictionary.specs.Dictionary.{is_map, without}
use Rattle.chew_spec_dictionary.specs.System.{row_of, rows_under}
use Rattle.chew_plain.specs.Order.{key_cmp}
use Rattle.chew_plain.specs.ByKey.{all_rows, are_own}
use Rattle.chew_plain.proofs.ByKey.{all_out, had_is_map, had_row, listed, lists_out, row_under, without_other}
use Rattle.chew_plain.proofs.lists.Lists.take_from_list.Goals.{in-Some, in-None}
use Rattle.chew_plain.proofs.lists.Lists.take_from_list.Goals as goal

pub take_out-requires : goal.take_out-requires
take_out-requires c = record {
  map = had_is_map (λ list. list.items) c.of.result c.self.inside.lists.entries (set_value (is_at (key_cmp c.of.result)) c.self.inside.lists.entries c.in-Some.list.now) c.in-Some.list.now c.in-Some.list.now
      (record { map = c.self.invariant.0; own = c.self.invariant.1 }) c.in-Some.ensures.ordered c.in-Some.ensures.value refl;
}

pub invariant_of-self : goal.invariant_of-self
invariant_of-self c =
    elim c.match-get_mut.branch [
      | in-Some w ↦ let l = lists_out (λ list. list.items) c.of.result c.self.inside.lists.entries (c.get_mut.follows.lender w.take_out.new.rows).entries w.in-Some.list.now w.take_out.new.rows (record { map = c.self.invariant.0; own = c.self.invariant.1 }) w.in-Some.ensures.ordered w.in-Some.ensures.value (c.get_mut.follows.holds w.take_out.new.rows).0 c.args.phrase.now
          (w.take_out.ensures.left ∙ ap (λ (k : List ℕ). without k c.args.phrase.now w.in-Some.list.now.items) (sym c.of.ensures)) in
          (ap (λ i. is_map (all_rows (λ list. list.items) i.lists.entries)) w.self-inside-is ∙ l.map, ap (λ i. are_own (λ list. list.items) i.lists.entries) w.self-inside-is ∙ l.own)
      | in-None w ↦ (ap (λ i. is_map (all_rows (λ list. list.items) i.lists.entries)) w.self-inside-is ∙ ap (λ m. is_map (all_rows (λ list. list.items) m.entries)) c.get_mut.follows.holds-at-none ∙ c.self.invariant.0, ap (λ i. are_own (λ list. list.items) i.lists.entries) w.self-inside-is ∙ ap (λ m. are_own (λ list. list.items) m.entries) c.get_mut.follows.holds-at-none ∙ c.self.invariant.1)
    ]

pub returns-clause-held : goal.returns-clause-held
returns-clause-held c =
    elim c.match-get_mut.branch [
      | in-Some w ↦ w.result-is ∙ w.take_out.ensures.held
          ∙ ap is_some (ap (λ (k : List ℕ). row_of w.in-Some.list.now.items k c.args.phrase.now) (sym c.of.ensures)
          ∙ had_row (λ list. list.items) c.of.result c.self.inside.lists.entries (c.get_mut.follows.lender w.take_out.new.rows).entries w.in-Some.list.now w.take_out.new.rows (record { map = c.self.invariant.0; own = c.self.invariant.1 }) w.in-Some.ensures.ordered w.in-Some.ensures.value (c.get_mut.follows.holds w.take_out.new.rows).0 c.args.phrase.now
          ∙ ap₂ (λ (l : List Row) (k : List ℕ). row_of l k c.args.phrase.now) c.self.view_is c.of.ensures)
      | in-None w ↦ w.result-is
          ∙ ap (λ (l : List Row). is_some (row_of l c.args.key.now c.args.phrase.now)) (listed (λ list. list.items) c.of.result c.self.inside.lists.entries c.args.self.now None w.in-None.ensures.value w.in-None.ensures.ordered c.self.invariant.1 c.self.view_is ∙ ap (rows_under c.args.self.now) c.of.ensures)
          ∙ ap is_some (row_under c.args.key.now c.args.phrase.now c.args.self.now)
    ]

pub returns-clause-left : goal.returns-clause-left
returns-clause-left c =
    elim c.match-get_mut.branch [
      | in-Some w ↦ ap (λ i. all_rows (λ list. list.items) i.lists.entries) w.self-inside-is
          ∙ all_out (λ list. list.items) c.of.result c.self.inside.lists.entries (c.get_mut.follows.lender w.take_out.new.rows).entries w.in-Some.list.now w.take_out.new.rows (record { map = c.self.invariant.0; own = c.self.invariant.1 }) w.in-Some.ensures.ordered w.in-Some.ensures.value (c.get_mut.follows.holds w.take_out.new.rows).0 c.args.phrase.now
          (w.take_out.ensures.left ∙ ap (λ (k : List ℕ). without k c.args.phrase.now w.in-Some.list.now.items) (sym c.of.ensures))
          ∙ ap₂ (λ (l : List Row) (k : List ℕ). without k c.args.phrase.now l) c.self.view_is c.of.ensures
      | in-None w ↦ ap (λ i. all_rows (λ list. list.items) i.lists.entries) w.self-inside-is
          ∙ ap (λ m. all_rows (λ list. list.items) m.entries) c.get_mut.follows.holds-at-none
          ∙ c.self.view_is
          ∙ sym (without_other c.args.key.now c.args.phrase.now c.args.self.now (sym (listed (λ list. list.items) c.of.result c.self.inside.lists.entries c.args.self.now None w.in-None.ensures.value w.in-None.ensures.ordered c.self.invariant.1 c.self.view_is ∙ ap (rows_under c.args.self.now) c.of.ensures)))
    ]
