-- One round more each time.
use Rattle.std.specs.Prelude.{◌≡◌, ◌∷◌, [], List, length, map, refl}
use Rattle.std.proofs.Common.{arith, sym, ap, ◌∙◌, subst}
use Rattle.std.proofs.lemmas.List.{length-append}
use Rattle.chew_checkpoint.specs.Answers.{round_of}
use Rattle.chew_checkpoint.specs.declared.round.Round.{Round}
use Rattle.chew_session.specs.Saving.{MakeAll, stage}
use Rattle.chew_session.proofs.Rounds.{one-on}
use Rattle.chew_session.proofs.Saving.{make-none}
use Rattle.chew_session.proofs.worker.Worker.rounds.Goals as goal

pub saving-init : goal.saving-init
saving-init g c =
    let told = g.D.Disk.told c.args.disk.now in
    let at = stage c.args.self.checkpointer (g.D.Disk.state c.args.disk.now) (g.D.Disk.faults c.args.disk.now) c.args.self.keeper in
    record {
      ours = c.requires.ours;
      keeper = c.requires.keeper;
      told = refl;
      count = ap length c.requires.none;
      makes = subst (λ (rs : List Round). MakeAll c.args.shared.now.start told at (map round_of rs) at) (sym c.requires.none) (make-none c.args.shared.now.start told at);
    }

pub saving-preserved : goal.saving-preserved
saving-preserved g c =
    let next = c.round-next.result.0 in
    let had = c.saving.worker in
    let long = ap length c.round-next.ensures.made ∙ length-append had.made.items (c.round-next.result.1 ∷ []) in
    let count = c.saving.invariant.count in
    record {
      ours = c.round-next.ensures.ours;
      keeper = c.round-next.ensures.keeper;
      told = c.round-next.ensures.told ∙ c.saving.invariant.told;
      count = omega arith;
      makes = one-on c.args.shared.now.start (g.D.Disk.told c.args.disk.now) (g.D.Disk.told c.saving.disk)
          (stage c.args.self.checkpointer (g.D.Disk.state c.args.disk.now) (g.D.Disk.faults c.args.disk.now) c.args.self.keeper)
          (stage had.checkpointer (g.D.Disk.state c.saving.disk) (g.D.Disk.faults c.saving.disk) had.keeper)
          (stage next.checkpointer (g.D.Disk.state c.round-next.new.disk) (g.D.Disk.faults c.round-next.new.disk) next.keeper)
          had.made.items c.round-next.result.1 next.made.items c.saving.invariant.told c.round-next.ensures.made c.saving.invariant.makes c.round-next.ensures.makes;
    }
