-- The prefixes are sorted, and none stands twice.
use Rattle.chew_trie_write.proofs.Distinct.{kept_keys}
use Rattle.chew_trie_write.proofs.keys.node_keys.Goals as goal

pub returns-clause-ok : goal.returns-clause-ok
returns-clause-ok c = kept_keys c.args.rows.now c.in_ok-keys.keys.items c.sort_keys.new.keys.items c.as_slice.result.now c.in_ok-kept.kept.items
    c.in_ok-keys.ensures.ok c.in_ok-sort_keys.ensures.same c.in_ok-sort_keys.ensures.sorted c.as_slice.ensures.value c.in_ok-kept.ensures.ok
