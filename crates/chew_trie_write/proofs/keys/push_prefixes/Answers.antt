-- One prefix more.
use Rattle.std.proofs.Common.{ap, length, arith}
use Rattle.std.proofs.lemmas.List.{length_push}
use Rattle.chew_trie_write.proofs.Distinct.{pushed_more}
use Rattle.chew_trie_write.proofs.keys.push_prefixes.Goals as goal

pub loop-n-preserved : goal.loop-n-preserved
loop-n-preserved c = record {
  items = pushed_more c.args.keys.now.items c.loop-n.keys.items c.push.new.self.items c.args.key.now c.prefix.result c.loop-n.n c.loop-n.invariant.items c.in_ok-push.ensures.items c.prefix.ensures;
  few = let l = ap length c.in_ok-push.ensures.items in let m = length_push c.loop-n.keys.items c.prefix.result in let n = c.loop-n.invariant.few in omega arith;
}
