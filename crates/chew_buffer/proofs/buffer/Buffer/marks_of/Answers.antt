-- The entries from where the key's pairs begin, up to the first of another key.
use Rattle.std.proofs.Common.{ℕ, List, ap, ap₂, ◌∙◌, sym, true≢false}
use Rattle.std.specs.List.{take_while}
use Rattle.std.specs.BTreeMap.Range.{entries_between}
use Rattle.std.specs.declared.ops.Bound.TheVariants.{Included, Unbounded}
use Rattle.chew_spec_layers.specs.Mark.{Marked}
use Rattle.chew_buffer.specs.declared.mark.Mark.{Mark}
use Rattle.chew_buffer.specs.Order.{Pair, ranked_cmp}
use Rattle.chew_buffer.specs.Marks.{is_mark_under, marks_in, marks_under}
use Rattle.chew_buffer.proofs.Ranges.{none_under, range_of_key}
use Rattle.chew_buffer.proofs.buffer.Buffer.marks_of.Goals as goal

pub returns-in-Some-clause-value : goal.returns-in-Some-clause-value
returns-in-Some-clause-value c =
    let entries = c.self.inside.marks.entries in
    c.of_key.ensures
    ∙ ap (λ (l : List (Pair × Mark)). take_while (is_mark_under c.in-Some.key) (marks_in l))
    (c.range.ensures.between tt ∙ ap (λ (pair : Pair). entries_between ranked_cmp (Included pair) Unbounded entries) c.first_of.ensures)
    ∙ range_of_key entries c.in-Some.key c.self.invariant.0 c.self.invariant.1
    ∙ ap₂ (λ (marks : List Marked) (key : List ℕ). marks_under marks key) c.self.view_is c.in-Some.ensures.ok

pub returns-in-None-clause-value : goal.returns-in-None-clause-value
returns-in-None-clause-value c =
    c.none.ensures
    ∙ sym (none_under (marks_in c.self.inside.marks.entries) c.args.key.now c.self.invariant.1 (λ lengths. true≢false (sym (c.in-None.ensures.range.1 lengths))))
    ∙ ap (λ (marks : List Marked). marks_under marks c.args.key.now) c.self.view_is
