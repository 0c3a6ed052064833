-- The rounds so far, and where they led.
use Rattle.std.proofs.Common.{◌≡◌, map}
use Rattle.arrayvec.specs.ArrayVec.{array_vec_len}
use Rattle.chew_spec_shared.specs.SharedCalls.{IsOf}
use Rattle.chew_checkpoint.specs.Answers.{round_of}
use Rattle.chew_session.specs.Saving.{MakeAll, stage}
use Rattle.chew_session.proofs.worker.Worker.rounds.Given as goal

abbrev pub invariant-saving : goal.invariant-saving
invariant-saving g l = record {
  ours : IsOf l.shared l.worker.keeper;
  keeper : l.worker.keeper.who ≡ 0;
  told : g.D.Disk.told l.disk ≡ g.D.Disk.told l.fn.disk;
  count : array_vec_len l.worker.made ≡ l._place;
  makes : MakeAll l.shared.start (g.D.Disk.told l.fn.disk)
      (stage l.fn.self.checkpointer (g.D.Disk.state l.fn.disk) (g.D.Disk.faults l.fn.disk) l.fn.self.keeper) (map round_of l.worker.made.items)
      (stage l.worker.checkpointer (g.D.Disk.state l.disk) (g.D.Disk.faults l.disk) l.worker.keeper);
}
