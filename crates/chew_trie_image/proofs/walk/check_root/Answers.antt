-- The header has no fault, and node 0 has one or none.
use Rattle.std.proofs.Common.{◌∙◌, ap, sym}
use Rattle.std.proofs.lemmas.Result.{err_from_is_err_and}
use Rattle.chew_spec_image.specs.ReadNodes.{NodesRead, root_fault, past_node}
use Rattle.chew_trie_image.proofs.Root.{root_fails, root_passes}
use Rattle.chew_trie_image.proofs.walk.check_root.Goals as goal

pub returns-in_err-check_root-clause-err : goal.returns-in_err-check_root-clause-err
returns-in_err-check_root-clause-err c =
    let p = err_from_is_err_and c.from_residual.result c.from_residual.ensures.1 in
    rw (p.1, p.2) (
    root_fails c.args.parts.now.bytes.now c.args.parts.now.counts c.node_at-root.result c.in_err-check_root.field-0.0.place c.args.parts.now.header c.args.parts.now.counted c.node_at-root.ensures
    (ap (λ (read : NodesRead). root_fault c.args.parts.now.counts read c.node_at-root.result) (sym c.at_root-before.ensures) ∙ c.in_err-check_root.ensures.err)
    )

pub returns-clause-ok : goal.returns-clause-ok
returns-clause-ok c =
    root_passes c.args.parts.now.bytes.now c.args.parts.now.counts c.node_at-root.result c.past.result c.at_rows.result c.args.parts.now.header c.args.parts.now.counted c.node_at-root.ensures
    (ap (λ (read : NodesRead). root_fault c.args.parts.now.counts read c.node_at-root.result) (sym c.at_root-before.ensures) ∙ c.in_ok-check_root.ensures.ok)
    c.in_ok-check_root.ensures.rows
    (c.past.ensures ∙ ap (λ (read : NodesRead). past_node read c.node_at-root.result) c.at_root-before.ensures)
    c.at_rows.ensures
