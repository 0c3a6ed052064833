-- The merge of the snapshot, which waits, may be installed.
use Rattle.std.proofs.Common.{◌∙◌}
use Rattle.std.specs.Arc.{arc_value}
use Rattle.chew_spec_layers.specs.Layers.{Waiting}
use Rattle.chew_shared_samples.proofs.Merges.{may_be_installed}
use Rattle.chew_shared_samples.proofs.merging.install_merge.Goals as goal

pub install-requires-clause-merge : goal.install-requires-clause-merge
install-requires-clause-merge g c =
    let snapshot = c.args.snapshot.now in
    let layer : Waiting = record { marks = arc_value snapshot.frozen; number = snapshot.upto; life = snapshot.life } in
    may_be_installed c.args.shared.now.start c.args.keeper.seen (arc_value snapshot.base) (arc_value c.in_ok-map.map) layer c.requires.snapshot (c.in_ok-map.ensures.ok ∙ c.in_ok-merged.ensures.value)

pub returns-clause-installed : goal.returns-clause-installed
returns-clause-installed g c = c.install.ensures.ok c.args.snapshot.now.upto c.requires.snapshot.waits
