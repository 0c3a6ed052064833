-- By what the write answers.
use Rattle.std.proofs.Common.{◌+◌, sym, subst}
use Rattle.std.specs.Arc.{arc_value}
use Rattle.std.proofs.lemmas.Result.{err_from_is_err_and}
use Rattle.chew_spec_layers.specs.Overlay.{overlay}
use Rattle.chew_spec_slots.specs.Slot.{Saved}
use Rattle.chew_spec_rounds.specs.WriteSteps.{WritesCheckpoint}
use Rattle.chew_checkpoint.proofs.Writing.{nothing-written, same-fault}
use Rattle.chew_checkpoint.proofs.checkpointer.Checkpointer.save.Goals as goal

pub returns-in_err-map-clause-writes : goal.returns-in_err-map-clause-writes
returns-in_err-map-clause-writes g c = λ told fits.
    let keep = c.args.self.now in
    let disk = g.D.Disk.state c.args.disk.now in
    let snapshot = c.args.snapshot.now in
    let saved : Saved = record { seq = keep.seq + 1; checkpoint = record { life = snapshot.life; rows = overlay (arc_value snapshot.base) (arc_value snapshot.frozen) } } in
    let p = err_from_is_err_and c.from_residual.result c.from_residual.ensures.1 in
    subst (λ r. WritesCheckpoint keep disk keep disk saved r) (sym p.1) (nothing-written keep disk saved p.0 fits)

pub returns-in_err-write-clause-spent : goal.returns-in_err-write-clause-spent
returns-in_err-write-clause-spent g c = λ seq is.
    let p = err_from_is_err_and c.from_residual-in_err-write.result c.from_residual-in_err-write.ensures.1 in
    ((c.in_err-write.ensures.spent seq).0 (same-fault c.from_residual-in_err-write.result _ _ seq p.1 p.2 is)).0
