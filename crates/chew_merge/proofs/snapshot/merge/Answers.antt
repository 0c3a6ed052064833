-- What waits, over the base, is the map then.
use Rattle.std.specs.Arc.{arc_value}
use Rattle.chew_merge.proofs.Prefix.{map_then}
use Rattle.chew_merge.proofs.snapshot.merge.Goals as goal

pub returns-clause-prefix : goal.returns-clause-prefix
returns-clause-prefix c =
    let snapshot = c.args.snapshot.now in
    map_then c.merge_layer.result c.deref.result.now (arc_value snapshot.base) c.deref-2.result.now (arc_value snapshot.frozen) snapshot.upto snapshot.life c.deref.ensures c.deref-2.ensures
    c.merge_layer.ensures
