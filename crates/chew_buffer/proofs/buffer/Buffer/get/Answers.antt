-- The mark of the pair's entry.
use Rattle.std.proofs.Common.{ap, ◌∙◌, option_map, List}
use Rattle.std.specs.BTreeMap.{is_at}
use Rattle.std.specs.Map.{lookup}
use Rattle.chew_spec_layers.specs.Mark.{Marked, mark_of}
use Rattle.chew_buffer.specs.Marks.{meaning}
use Rattle.chew_buffer.specs.Order.{Pair, ranked_cmp}
use Rattle.chew_buffer.proofs.Entries.{looked_up}
use Rattle.chew_buffer.proofs.buffer.Buffer.get.Goals as goal

pub returns-clause-value : goal.returns-clause-value
returns-clause-value c =
    ap (option_map meaning) (c.copied.ensures ∙ (c.get.ensures.value ∙ ap (λ (k : Pair). lookup (is_at (ranked_cmp k)) c.self.inside.marks.entries) c.of.ensures))
    ∙ looked_up c.self.inside.marks.entries (record { key = c.args.key.now; phrase = c.args.phrase.now })
    ∙ ap (λ (marks : List Marked). mark_of marks c.args.key.now c.args.phrase.now) c.self.view_is
