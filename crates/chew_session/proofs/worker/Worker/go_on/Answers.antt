-- By what the round before answered.
use Rattle.std.specs.Prelude.{◌≡◌, ◌++◌, [], List, map, refl}
use Rattle.std.proofs.Common.{sym, ap, ◌∙◌, subst}
use Rattle.chew_layers.specs.Need.{meaning_of}
use Rattle.chew_spec_rounds.specs.Round as spec
use Rattle.chew_checkpoint.specs.Answers.{round_of}
use Rattle.chew_checkpoint.specs.declared.round.Round.{Round}
use Rattle.chew_session.specs.Saving.{GoOn, stage}
use Rattle.chew_session.proofs.Rounds.{joined-none, wait-on}
use Rattle.chew_session.proofs.Saving.{make-none}
use Rattle.chew_session.proofs.worker.Worker.go_on.Goals as goal

pub returns-in-Saved-clause-saves : goal.returns-in-Saved-clause-saves
returns-in-Saved-clause-saves g c =
    let asked = c.need-worker.result.0 in
    let saved = c.save_changes.ensures.saves in (
      saved.0,
      saved.1 ∙ ap (λ (rs : List Round). map round_of rs ++ saved.0) c.need-worker.ensures.items,
      subst (λ (r : Round). GoOn c.args.shared.now.start (round_of r) c.args.self.keeper.seen saved.0 c.save_changes.result.keeper.seen) (sym c.in-Saved.is)
          (meaning_of c.need-worker.result.1, asked.keeper.seen, c.need-worker.ensures.asks, saved.2),
      wait-on c.args.shared.now.start (g.D.Disk.told c.args.disk.now) c.args.self.checkpointer asked.checkpointer (g.D.Disk.state c.args.disk.now) (g.D.Disk.faults c.args.disk.now)
          c.args.self.keeper.seen asked.keeper.seen saved.0
          (stage c.save_changes.result.checkpointer (g.D.Disk.state c.save_changes.new.disk) (g.D.Disk.faults c.save_changes.new.disk) c.save_changes.result.keeper)
          c.need-worker.ensures.checkpointer c.need-worker.ensures.asks.seen saved.3,
    )

pub returns-in-DiskFault-clause-saves : goal.returns-in-DiskFault-clause-saves
returns-in-DiskFault-clause-saves g c = (
  [],
  joined-none c.args.self.made.items c.args.self.made.items refl,
  subst (λ (r : Round). GoOn c.args.shared.now.start (round_of r) c.args.self.keeper.seen [] c.args.self.keeper.seen) (sym c.in-DiskFault.is) (refl, refl),
  make-none c.args.shared.now.start (g.D.Disk.told c.args.disk.now)
      (stage c.args.self.checkpointer (g.D.Disk.state c.args.disk.now) (g.D.Disk.faults c.args.disk.now) c.args.self.keeper),
)

pub returns-in-NoMemory-clause-saves : goal.returns-in-NoMemory-clause-saves
returns-in-NoMemory-clause-saves g c = (
  [],
  joined-none c.args.self.made.items c.args.self.made.items refl,
  subst (λ (r : Round). GoOn c.args.shared.now.start (round_of r) c.args.self.keeper.seen [] c.args.self.keeper.seen) (sym c.in-NoMemory.is) (refl, refl),
  make-none c.args.shared.now.start (g.D.Disk.told c.args.disk.now)
      (stage c.args.self.checkpointer (g.D.Disk.state c.args.disk.now) (g.D.Disk.faults c.args.disk.now) c.args.self.keeper),
)

pub returns-in-SeqSpent-clause-saves : goal.returns-in-SeqSpent-clause-saves
returns-in-SeqSpent-clause-saves g c = (
  [],
  joined-none c.args.self.made.items c.args.self.made.items refl,
  subst (λ (r : Round). GoOn c.args.shared.now.start (round_of r) c.args.self.keeper.seen [] c.args.self.keeper.seen) (sym c.in-SeqSpent.is) (refl, refl),
  make-none c.args.shared.now.start (g.D.Disk.told c.args.disk.now)
      (stage c.args.self.checkpointer (g.D.Disk.state c.args.disk.now) (g.D.Disk.faults c.args.disk.now) c.args.self.keeper),
)
