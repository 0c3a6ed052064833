-- What was installed waits no more.
use Rattle.std.proofs.Common.{ap}
use Rattle.chew_spec_layers.specs.Layers.{Layers}
use Rattle.chew_layer_samples.specs.Waiting.{waiting_of}
use Rattle.chew_layer_samples.proofs.in_layers.InLayers.install.Goals as goal

pub invariant_of-self : goal.invariant_of-self
invariant_of-self c =
    let known = rw c.in-Some.is at c.self.invariant in
    ap (λ (layers : Layers). layers.frozen) (c.install.ensures.left (waiting_of c.in-Some.snapshot) known.1)
