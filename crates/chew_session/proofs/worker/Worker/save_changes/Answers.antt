-- By what is needed.
use Rattle.std.specs.Prelude.{◌≡◌, ◌∷◌, [], refl}
use Rattle.std.proofs.Common.{sym, subst}
use Rattle.chew_layers.specs.Need.{meaning_of}
use Rattle.chew_layers.specs.declared.need.Need.{Need}
use Rattle.chew_checkpoint.specs.Answers.{round_of}
use Rattle.chew_session.specs.Saving.{SavesChanges, stage}
use Rattle.chew_session.proofs.Rounds.{joined-none, joined-one}
use Rattle.chew_session.proofs.Saving.{make-none, make-round}
use Rattle.chew_session.proofs.worker.Worker.save_changes.Goals as goal

pub returns-in-Fresh-clause-saves : goal.returns-in-Fresh-clause-saves
returns-in-Fresh-clause-saves g c =
    let round = c.round.result.1 in
    let made = c.round.result.0 in (
      round_of round ∷ [],
      joined-one c.args.self.made.items made.made.items round c.round.ensures.made,
      subst (λ (n : Need). SavesChanges (meaning_of n) c.args.self.keeper.seen (round_of round ∷ []) made.keeper.seen) (sym c.in-Fresh.is) (round_of round, refl, c.round.ensures.makes.calls),
      make-round c.args.shared.now.start (g.D.Disk.told c.args.disk.now)
          (stage c.args.self.checkpointer (g.D.Disk.state c.args.disk.now) (g.D.Disk.faults c.args.disk.now) c.args.self.keeper) (round_of round)
          (stage made.checkpointer (g.D.Disk.state c.round.new.disk) (g.D.Disk.faults c.round.new.disk) made.keeper) c.round.ensures.makes,
    )

pub returns-in-Waiting-clause-saves : goal.returns-in-Waiting-clause-saves
returns-in-Waiting-clause-saves g c = (
  [],
  joined-none c.args.self.made.items c.args.self.made.items refl,
  subst (λ (n : Need). SavesChanges (meaning_of n) c.args.self.keeper.seen [] c.args.self.keeper.seen) (sym c.in-Waiting.is) (refl, refl),
  make-none c.args.shared.now.start (g.D.Disk.told c.args.disk.now)
      (stage c.args.self.checkpointer (g.D.Disk.state c.args.disk.now) (g.D.Disk.faults c.args.disk.now) c.args.self.keeper),
)

pub returns-in-Nothing-clause-saves : goal.returns-in-Nothing-clause-saves
returns-in-Nothing-clause-saves g c = (
  [],
  joined-none c.args.self.made.items c.args.self.made.items refl,
  subst (λ (n : Need). SavesChanges (meaning_of n) c.args.self.keeper.seen [] c.args.self.keeper.seen) (sym c.in-Nothing.is) (refl, refl),
  make-none c.args.shared.now.start (g.D.Disk.told c.args.disk.now)
      (stage c.args.self.checkpointer (g.D.Disk.state c.args.disk.now) (g.D.Disk.faults c.args.disk.now) c.args.self.keeper),
)
