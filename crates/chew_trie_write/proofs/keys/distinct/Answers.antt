-- One key more.
use Rattle.std.proofs.Common.{ℕ, ◌+◌, ◌++◌, List, ◌∙◌, ap, sym, arith, drop}
use Rattle.chew_trie_write.specs.Unlike.{unlike}
use Rattle.chew_trie_write.proofs.Distinct.{unlike_few, unlike_more}
use Rattle.chew_trie_write.proofs.keys.distinct.Goals as goal

pub loop-key-preserved : goal.loop-key-preserved
loop-key-preserved c = record {
  items = unlike_more c.args.keys.now c.loop-key.kept.items c.push_unlike.new.kept.items c.loop-key.last.now c.key-item.result c.loop-key.key-index
      c.loop-key-test.true c.key-item.is c.loop-key.invariant.items c.in_ok-push_unlike.ensures
      ∙ ap (λ (k : List ℕ). c.push_unlike.new.kept.items ++ unlike k (drop (c.loop-key.key-index + 1) c.args.keys.now)) (sym c.list-last.ensures.value);
  few = let l = unlike_few c.loop-key.kept.items c.push_unlike.new.kept.items c.loop-key.last.now c.key-item.result c.in_ok-push_unlike.ensures in let n = c.loop-key.invariant.few in omega arith;
}
