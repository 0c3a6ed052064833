-- The order is total, so a sort by it leaves sorted keys.
use Rattle.std.proofs.Common.{rules}
use Rattle.chew_spec_image.specs.NodeKeys.{key_cmp}
use Rattle.chew_spec_image.proofs.KeyOrder.{key_total}
use Rattle.chew_trie_write.proofs.Distinct.{sorted_by}
use Rattle.chew_trie_write.proofs.keys.sort_keys.Goals as goal

pub returns-clause-sorted : goal.returns-clause-sorted
returns-clause-sorted c = sorted_by key_cmp key_total _ c.in_ok-sort_by.ensures.sorted (λ a r f k. search rules)
