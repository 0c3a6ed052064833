-- The node so far has the front of the key.
use Rattle.std.proofs.Common.{◌∙◌}
use Rattle.std.proofs.lemmas.List.{take_all}
use Rattle.chew_trie_read.proofs.Finding.{next_key, no_key, root_key, root_within}
use Rattle.chew_trie_read.proofs.find.find.Goals as goal

pub loop-syllable-init : goal.loop-syllable-init
loop-syllable-init c = record { within = root_within c.args.image.now; front = root_key c.args.image.now }

pub loop-syllable-preserved : goal.loop-syllable-preserved
loop-syllable-preserved c = record {
  within = c.in_ok-node.ensures.within;
  front = next_key c.args.image.now c.args.key.now c.loop-syllable.syllable-index c.loop-syllable.node c.in_ok-node.node c.code.result c.syllable-item.result c.loop-syllable-test.true c.code.ensures.value c.syllable-item.is c.loop-syllable.invariant.front c.in_ok-node.ensures.some;
}

pub returns-in_err-node-clause-none : goal.returns-in_err-node-clause-none
returns-in_err-node-clause-none c =
    rw c.from_residual.ensures (no_key c.args.image.now c.args.key.now c.loop-syllable.syllable-index c.loop-syllable.node c.code.result c.syllable-item.result c.loop-syllable-test.true c.code.ensures.value c.syllable-item.is c.loop-syllable.invariant.front c.in_err-node.ensures.none)

pub returns-clause-some : goal.returns-clause-some
returns-clause-some c = c.loop-syllable.invariant.front ∙ take_all c.loop-syllable.syllable-index c.args.key.now c.loop-syllable-test.false
