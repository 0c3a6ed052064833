-- The nodes stand one behind the other.
use Rattle.std.proofs.Common.{◌<◌, List, length, sym, subst}
use Rattle.chew_spec_syllable.specs.Row.{Row}
use Rattle.chew_spec_image.specs.NodeKeys.{node_keys}
use Rattle.chew_spec_image.specs.Reading.{rows_in}
use Rattle.chew_trie_read.specs.Search.{IsNode}
use Rattle.chew_trie_read.proofs.Stored.{node_stored, node_within}
use Rattle.chew_trie_read.proofs.image.Image.node.Goals as goal

pub node_at-requires : goal.node_at-requires
node_at-requires c =
    let within : c.args.i < length (node_keys (rows_in c.self.inside.bytes.now)) = subst (λ (r : List Row). c.args.i < length (node_keys r)) (sym c.self.view_is) c.requires in
    node_within c.self.inside.bytes.now c.self.inside.counts c.args.i c.self.invariant within

pub returns : goal.returns
returns c =
    let within : c.args.i < length (node_keys (rows_in c.self.inside.bytes.now)) = subst (λ (r : List Row). c.args.i < length (node_keys r)) (sym c.self.view_is) c.requires in
    subst (λ (r : List Row). IsNode r c.args.i c.node_at.result) c.self.view_is
    (subst (IsNode (rows_in c.self.inside.bytes.now) c.args.i) (sym c.node_at.ensures) (node_stored c.self.inside.bytes.now c.self.inside.counts c.args.i c.self.invariant within))
