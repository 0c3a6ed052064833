-- What the layers need is what is needed after their journal.
use Rattle.std.proofs.Common.{sym, subst}
use Rattle.chew_spec_layers.specs.Layers.{Layers}
use Rattle.chew_spec_layers.specs.Need.{Need}
use Rattle.chew_spec_shared.specs.Needs.{IsNeed}
use Rattle.chew_spec_shared.proofs.Layered.{need-held}
use Rattle.chew_layers.specs.Need.{meaning_of}
use Rattle.chew_shared.proofs.legal.LegalLayers.need.Goals as goal

pub returns : goal.returns
returns c =
    let its = c.self.inside.layers in
    subst (λ (s : Layers). IsNeed s.start s.journal (meaning_of c.need.result)) c.self.view_is
    (subst (λ (n : Need). IsNeed its.start its.journal n) (sym c.need.ensures) (need-held its c.self.invariant.stand))
