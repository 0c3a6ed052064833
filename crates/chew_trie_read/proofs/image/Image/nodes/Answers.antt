-- The header has their number.
use Rattle.std.proofs.Common.{List, length, ap, ◌∙◌, arith}
use Rattle.chew_spec_syllable.specs.Row.{Row}
use Rattle.chew_trie_read.specs.declared.image.Image.TheInside.{Inside}
use Rattle.chew_spec_image.specs.NodeKeys.{node_keys}
use Rattle.chew_trie_read.proofs.Stored.{nodes_counted, nodes_few}
use Rattle.chew_trie_read.proofs.image.Image.nodes.Goals as goal

pub returns-clause-value : goal.returns-clause-value
returns-clause-value c =
    ap (λ (x : Inside). x.counts.nodes) c.self-inside.view_is ∙ nodes_counted c.self.inside.bytes.now c.self.inside.counts c.self.invariant
    ∙ ap (λ (r : List Row). length (node_keys r)) c.self.view_is

pub returns-clause-few : goal.returns-clause-few
returns-clause-few c =
    let n = ap (λ (x : Inside). x.counts.nodes) c.self-inside.view_is ∙ nodes_counted c.self.inside.bytes.now c.self.inside.counts c.self.invariant in
    let few = nodes_few c.self.inside.bytes.now c.self.inside.counts c.self.invariant in
    omega arith
