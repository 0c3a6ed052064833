-- The node whose children reach over the place.
use Rattle.chew_trie_read.proofs.Climbing.{parent_found}
use Rattle.chew_trie_read.proofs.keys.parent_of.Goals as goal

pub returns-clause-parent : goal.returns-clause-parent
returns-clause-parent c =
    parent_found c.args.image.now c.last_before.result c.args.i c.last_before.ensures.within c.requires.within c.last_before.ensures.from c.last_before.ensures.upto
