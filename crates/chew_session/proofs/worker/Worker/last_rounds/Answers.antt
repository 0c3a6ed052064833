-- By what is needed.
use Rattle.std.specs.Prelude.{◌≡◌, ◌∷◌, ◌++◌, [], List, map, refl}
use Rattle.std.proofs.Common.{sym, ap, ◌∙◌, subst}
use Rattle.chew_layers.specs.Need.{meaning_of}
use Rattle.chew_layers.specs.declared.need.Need.{Need}
use Rattle.chew_checkpoint.specs.Answers.{round_of}
use Rattle.chew_checkpoint.specs.declared.round.Round.{Round}
use Rattle.chew_session.specs.Saving.{SaveBy, SavesChanges, stage}
use Rattle.chew_session.proofs.Rounds.{joined-none, joined-over, round-on, wait-on}
use Rattle.chew_session.proofs.Saving.{make-none}
use Rattle.chew_session.proofs.worker.Worker.last_rounds.Goals as goal

pub returns-in-Waiting-clause-saves : goal.returns-in-Waiting-clause-saves
returns-in-Waiting-clause-saves g c =
    let start = c.args.shared.now.start in
    let asked = c.need-worker.result.0 in
    let round = c.round-worker.result.1 in
    let next = c.round-worker.result.0 in
    let goes = c.go_on.ensures.saves in
    let told = g.D.Disk.told c.args.disk.now in
    let last = stage c.go_on.result.checkpointer (g.D.Disk.state c.go_on.new.disk) (g.D.Disk.faults c.go_on.new.disk) c.go_on.result.keeper in (
      round_of round ∷ goes.0,
      joined-over c.args.self.made.items next.made.items (map round_of c.go_on.result.made.items) round goes.0
          (c.round-worker.ensures.made ∙ ap (λ (rs : List Round). rs ++ round ∷ []) c.need-worker.ensures.items) goes.1,
      record {
        need = meaning_of c.need-worker.result.1;
        asked = asked.keeper.seen;
        asks = c.need-worker.ensures.asks;
        saves = subst (λ (n : Need). SaveBy start (meaning_of n) asked.keeper.seen (round_of round ∷ goes.0) c.go_on.result.keeper.seen) (sym c.in-Waiting.is)
            (round_of round, goes.0, next.keeper.seen, refl, c.round-worker.ensures.makes.calls, goes.2);
      },
      wait-on start told c.args.self.checkpointer asked.checkpointer (g.D.Disk.state c.args.disk.now) (g.D.Disk.faults c.args.disk.now) c.args.self.keeper.seen asked.keeper.seen
          (round_of round ∷ goes.0) last c.need-worker.ensures.checkpointer c.need-worker.ensures.asks.seen
          (round-on start told (g.D.Disk.told c.round-worker.new.disk)
          (stage asked.checkpointer (g.D.Disk.state c.args.disk.now) (g.D.Disk.faults c.args.disk.now) asked.keeper)
          (stage next.checkpointer (g.D.Disk.state c.round-worker.new.disk) (g.D.Disk.faults c.round-worker.new.disk) next.keeper)
          last (round_of round) goes.0 c.round-worker.ensures.told c.round-worker.ensures.makes goes.3),
    )

pub returns-in-Fresh-clause-saves : goal.returns-in-Fresh-clause-saves
returns-in-Fresh-clause-saves g c =
    let start = c.args.shared.now.start in
    let asked = c.need-worker.result.0 in
    let saved = c.save_changes.ensures.saves in
    let last = stage c.save_changes.result.checkpointer (g.D.Disk.state c.save_changes.new.disk) (g.D.Disk.faults c.save_changes.new.disk) c.save_changes.result.keeper in (
      saved.0,
      saved.1 ∙ ap (λ (rs : List Round). map round_of rs ++ saved.0) c.need-worker.ensures.items,
      record {
        need = meaning_of c.need-worker.result.1;
        asked = asked.keeper.seen;
        asks = c.need-worker.ensures.asks;
        saves = subst (λ (n : Need). SaveBy start (meaning_of n) asked.keeper.seen saved.0 c.save_changes.result.keeper.seen) (sym c.in-Fresh.is)
            (subst (λ (n : Need). SavesChanges (meaning_of n) asked.keeper.seen saved.0 c.save_changes.result.keeper.seen) c.in-Fresh.is saved.2);
      },
      wait-on start (g.D.Disk.told c.args.disk.now) c.args.self.checkpointer asked.checkpointer (g.D.Disk.state c.args.disk.now) (g.D.Disk.faults c.args.disk.now) c.args.self.keeper.seen asked.keeper.seen
          saved.0 last c.need-worker.ensures.checkpointer c.need-worker.ensures.asks.seen saved.3,
    )

pub returns-in-Nothing-clause-saves : goal.returns-in-Nothing-clause-saves
returns-in-Nothing-clause-saves g c =
    let start = c.args.shared.now.start in
    let asked = c.need-worker.result.0 in
    let told = g.D.Disk.told c.args.disk.now in
    let at = stage asked.checkpointer (g.D.Disk.state c.args.disk.now) (g.D.Disk.faults c.args.disk.now) asked.keeper in (
      [],
      joined-none c.args.self.made.items asked.made.items c.need-worker.ensures.items,
      record {
        need = meaning_of c.need-worker.result.1;
        asked = asked.keeper.seen;
        asks = c.need-worker.ensures.asks;
        saves = subst (λ (n : Need). SaveBy start (meaning_of n) asked.keeper.seen [] asked.keeper.seen) (sym c.in-Nothing.is) (refl, refl);
      },
      wait-on start told c.args.self.checkpointer asked.checkpointer (g.D.Disk.state c.args.disk.now) (g.D.Disk.faults c.args.disk.now) c.args.self.keeper.seen asked.keeper.seen
          [] at c.need-worker.ensures.checkpointer c.need-worker.ensures.asks.seen (make-none start told at),
    )
