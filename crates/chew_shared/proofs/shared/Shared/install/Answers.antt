-- What waited for the keeper waits still, whatever others did meanwhile; and the turn adds the install.
use Rattle.std.proofs.Common.{◌≡◌, ◌++◌, ◌∷◌, [], ℕ, List, Some, refl, ap, ◌∙◌, sym, subst, inr}
use Rattle.std.specs.Arc.{arc_value}
use Rattle.chew_spec_dictionary.specs.Call.{Install, Installed}
use Rattle.chew_spec_dictionary.specs.Dictionary.{Dictionary}
use Rattle.chew_spec_dictionary.specs.History.{Entry}
use Rattle.chew_spec_cell.specs.Pass.{Cell}
use Rattle.chew_spec_cell.specs.Sight.{HasSeen}
use Rattle.chew_spec_shared.specs.Snapshot.{IsMerge, waiting_after}
use Rattle.chew_shared.proofs.Turns.{asked}
use Rattle.chew_shared.proofs.shared.Shared.install.Goals as goal

pub install-requires : goal.install-requires
install-requires g c =
    let its = c.enter-turn.ensures.start ∙ ap (λ (cell : Cell). cell.start) c.self.view_is in (
      c.args.keeper.seen,
      c.requires.merge.0,
      subst (λ (who : ℕ). HasSeen who c.args.keeper.seen c.enter-turn.result.value.journal) c.requires.keeper c.enter-turn.ensures.seen,
      subst (λ (d : Dictionary). IsMerge d c.args.keeper.seen c.requires.merge.0 (arc_value c.args.map)) (sym its) c.requires.merge.1,
    )

pub leave-requires-clause-entries : goal.leave-requires-clause-entries
leave-requires-clause-entries g c = λ κs.
    let its = c.enter-turn.ensures.start ∙ ap (λ (cell : Cell). cell.start) c.self.view_is in
    let has = subst (λ (who : ℕ). HasSeen who c.args.keeper.seen c.enter-turn.result.value.journal) c.requires.keeper c.enter-turn.ensures.seen in
    let waits = subst (λ (d : Dictionary). waiting_after d c.args.keeper.seen ≡ Some c.requires.merge.0) (sym its) c.requires.merge.1.waits in
    let e : Entry = record { who = 0; call = Install c.requires.merge.0 } in
    inr (
      e,
      c.install.ensures.journal c.args.keeper.seen c.requires.merge.0 has waits ∙ ap (λ (l : List Entry). l ++ e ∷ []) c.enter-turn.ensures.entries,
      sym (c.enter-turn.ensures.who ∙ c.requires.keeper),
    )

pub returns-clause-ok : goal.returns-clause-ok
returns-clause-ok g c = λ number waits.
    let its = c.enter-turn.ensures.start ∙ ap (λ (cell : Cell). cell.start) c.self.view_is in
    let has = subst (λ (who : ℕ). HasSeen who c.args.keeper.seen c.enter-turn.result.value.journal) c.requires.keeper c.enter-turn.ensures.seen in
    let waited = subst (λ (d : Dictionary). waiting_after d c.args.keeper.seen ≡ Some number) (sym its) waits in
    asked c.args.keeper (Install number) Installed c.enter-turn.result.value c.install.new.self 0 c.leave.result.seen c.enter-turn.ensures.seen (sym c.requires.keeper)
    (its ∙ ap (λ (cell : Cell). cell.start) (sym c.requires.ours))
    (c.install.ensures.journal c.args.keeper.seen number has waited) refl (ap (λ p. p.seen) c.leave.ensures)
