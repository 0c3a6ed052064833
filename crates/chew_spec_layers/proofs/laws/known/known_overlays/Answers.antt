-- Each value computes.
use Rattle.std.proofs.Common.{refl}
use Rattle.chew_spec_layers.specs.Overlay.{overlay}
use Rattle.chew_spec_layers.proofs.laws.known.known_overlays.Goals as goal

pub returns-clause-map : goal.returns-clause-map
unfolding overlay
returns-clause-map c = refl
