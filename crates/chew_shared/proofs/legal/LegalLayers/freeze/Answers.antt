-- A freeze of the number 0 is legal, and what waits then is the snapshot.
use Rattle.std.proofs.Common.{◌≡◌, refl, subst}
use Rattle.std.specs.Arc.{arc_value}
use Rattle.std.specs.Prelude.{IfOk}
use Rattle.chew_spec_dictionary.specs.Call.{Freeze, Frozen}
use Rattle.chew_spec_dictionary.specs.History.{after, answer, start_of}
use Rattle.chew_spec_layers.specs.Layers.{Layers}
use Rattle.chew_shared.proofs.Legality.{freeze-journal, freeze-start, given, one-or-none, replied}
use Rattle.chew_shared.proofs.legal.LegalLayers.freeze.Goals as goal

pub invariant_of-self : goal.invariant_of-self
invariant_of-self c =
    let old = c.self.inside.layers in
    let now = c.freeze.new.self in
    one-or-none c.freeze.result old now (record { who = 0; call = Freeze }) c.self.invariant refl
    (freeze-start c.freeze.result old now 0 c.freeze.ensures.ok c.freeze.ensures.err)
    c.freeze.ensures.stands (freeze-journal c.freeze.result old now 0 c.freeze.ensures.ok) c.freeze.ensures.err

pub returns-clause-reply : goal.returns-clause-reply
returns-clause-reply c =
    let old = c.self.inside.layers in
    let now = c.freeze.new.self in
    subst (λ (s : Layers). IfOk c.freeze.result (λ snapshot. Frozen snapshot.upto ≡ (answer (after (start_of s.start) s.journal) Freeze).reply)) c.self.view_is
    (replied c.freeze.result (λ snapshot. record { marks = arc_value snapshot.frozen; number = snapshot.upto; life = snapshot.life }) old now
    c.freeze.ensures.stands c.freeze.ensures.frozen
    (freeze-start c.freeze.result old now 0 c.freeze.ensures.ok c.freeze.ensures.err)
    (freeze-journal c.freeze.result old now 0 c.freeze.ensures.ok))

pub returns-clause-snapshot : goal.returns-clause-snapshot
returns-clause-snapshot c =
    given c.freeze.result (λ snapshot. record { marks = arc_value snapshot.frozen; number = snapshot.upto; life = snapshot.life }) (λ snapshot. arc_value snapshot.base)
    c.freeze.new.self c.freeze.ensures.stands c.freeze.ensures.frozen c.freeze.ensures.base
