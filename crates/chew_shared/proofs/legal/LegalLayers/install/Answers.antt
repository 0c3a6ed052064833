-- What waited for the keeper waits still, and the merge is of that.
use Rattle.std.proofs.Common.{◌≡◌, ◌++◌, ◌∷◌, [], ℕ, List, Some, ap, ◌∙◌, subst}
use Rattle.std.specs.Arc.{arc_value}
use Rattle.chew_spec_dictionary.specs.Call.{Install}
use Rattle.chew_spec_dictionary.specs.History.{Entry}
use Rattle.chew_spec_layers.specs.Layers.{Layers}
use Rattle.chew_spec_cell.specs.Sight.{HasSeen}
use Rattle.chew_spec_shared.specs.Snapshot.{waiting_after}
use Rattle.chew_spec_shared.proofs.Layered.{merge-held}
use Rattle.chew_shared.proofs.Legality.{install-both, installed-legal, merge-still, waits-still}
use Rattle.chew_shared.proofs.legal.LegalLayers.install.Goals as goal

pub install-requires-clause-map : goal.install-requires-clause-map
install-requires-clause-map c =
    let merge = merge-still c.self.inside.layers c.args.self.now (arc_value c.args.map) c.self.view_is c.self.invariant c.requires in
    (merge-held c.self.inside.layers c.self.invariant.stand merge.0 (arc_value c.args.map) merge.1).1

pub install-requires-clause-waits : goal.install-requires-clause-waits
install-requires-clause-waits c =
    let merge = merge-still c.self.inside.layers c.args.self.now (arc_value c.args.map) c.self.view_is c.self.invariant c.requires in
    (merge-held c.self.inside.layers c.self.invariant.stand merge.0 (arc_value c.args.map) merge.1).0

pub invariant_of-self : goal.invariant_of-self
invariant_of-self c =
    let merge = merge-still c.self.inside.layers c.args.self.now (arc_value c.args.map) c.self.view_is c.self.invariant c.requires in
    installed-legal c.self.inside.layers c.install.new.self (arc_value c.args.map) merge.0 c.self.invariant merge.1.waits c.install.ensures.left c.install.ensures.stands

pub returns-clause-start : goal.returns-clause-start
returns-clause-start c =
    let merge = merge-still c.self.inside.layers c.args.self.now (arc_value c.args.map) c.self.view_is c.self.invariant c.requires in
    (install-both c.self.inside.layers c.install.new.self (arc_value c.args.map) merge.0 c.self.invariant merge.1.waits c.install.ensures.left).0
    ∙ ap (λ (s : Layers). s.start) c.self.view_is

pub returns-clause-journal : goal.returns-clause-journal
returns-clause-journal c =
    let its = c.self.inside.layers in
    subst (λ (s : Layers). (seen : List Entry) (number : ℕ) → HasSeen 0 seen s.journal → waiting_after s.start seen ≡ Some number
    → c.install.new.self.journal ≡ s.journal ++ record { who = 0; call = Install number } ∷ []) c.self.view_is
    (λ seen number has waits.
    (install-both its c.install.new.self (arc_value c.args.map) number c.self.invariant (waits-still its seen number c.self.invariant has waits) c.install.ensures.left).1)
