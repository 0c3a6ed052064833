-- The mark is put among the others.
use Rattle.std.proofs.Common.{ap, ap₂, ◌∙◌, List}
use Rattle.std.specs.List.{list_all}
use Rattle.chew_spec_layers.specs.Mark.{Marked, is_layer, is_proper_mark, put_mark}
use Rattle.chew_buffer.specs.Marks.{marked_of, marks_in}
use Rattle.chew_buffer.specs.Order.{Pair}
use Rattle.chew_buffer.proofs.Entries.{either_way, inserted, inserted_layer, inserted_proper}
use Rattle.chew_buffer.proofs.buffer.Buffer.set.Goals as goal

pub invariant_of-self-2 : goal.invariant_of-self-2
invariant_of-self-2 c =
    let proper = ap (λ (pair : Pair). is_proper_mark (marked_of pair.key pair.phrase c.args.mark)) c.of.ensures ∙ c.requires.proper in
    either_way c.insert.result c.insert.ensures.entries c.insert.ensures.err
    (λ added. (
      ap (λ entries. is_layer (marks_in entries)) added ∙ inserted_layer c.self.inside.marks.entries c.of.result c.args.mark c.self.invariant.0,
      ap (λ entries. list_all is_proper_mark (marks_in entries)) added ∙ inserted_proper c.self.inside.marks.entries c.of.result c.args.mark proper c.self.invariant.1,
    ))
    (λ kept. (
      ap (λ entries. is_layer (marks_in entries)) kept ∙ c.self.invariant.0,
      ap (λ entries. list_all is_proper_mark (marks_in entries)) kept ∙ c.self.invariant.1,
    ))

pub returns-clause-ok : goal.returns-clause-ok
returns-clause-ok c =
    ap marks_in c.in_ok-insert.ensures.entries
    ∙ inserted c.self.inside.marks.entries c.of.result c.args.mark
    ∙ ap₂ (λ (pair : Pair) (marks : List Marked). put_mark (marked_of pair.key pair.phrase c.args.mark) marks) c.of.ensures c.self.view_is
