-- The contexts so far, and the keys of those that are left.
use Rattle.std.proofs.Common.{◌≡◌, ◌++◌, length, map}
use Rattle.std.specs.List.{range_with_len}
use Rattle.std.specs.Vec.Iter.{into_iter_items, into_iter_len}
use Rattle.chew_script.specs.Keys.{lists_of}
use Rattle.chew_session.specs.Crew.{keys_of_all}
use Rattle.chewing_cli.proofs.run.actors_of.Given as goal

abbrev pub invariant-loop-keys : goal.invariant-loop-keys
invariant-loop-keys l = record {
  kept : keys_of_all l.actors.items ++ lists_of (into_iter_items l.keys-iterator) ≡ l.fn.contexts;
  numbered : map (λ actor. actor.who) l.actors.items ≡ range_with_len 1 (length l.actors.items);
  counted : l.who ≡ length l.actors.items;
  left : into_iter_len l.keys-iterator ≡ length (into_iter_items l.keys-iterator);
}
