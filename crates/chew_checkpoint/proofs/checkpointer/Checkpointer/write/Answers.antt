-- By what the three steps do with the body of the next number.
use Rattle.std.proofs.Common.{◌+◌, ◌∙◌, sym, subst}
use Rattle.std.proofs.lemmas.Result.{err_from_is_err_and}
use Rattle.chew_spec_slots.specs.Fits.{Fits}
use Rattle.chew_spec_slots.specs.Keep.{Keep}
use Rattle.chew_spec_slots.specs.Slot.{Checkpoint, Saved}
use Rattle.chew_spec_rounds.specs.WriteSteps.{WritesCheckpoint}
use Rattle.chew_checkpoint.proofs.Writing.{done-write, failed-write, nothing-written}
use Rattle.chew_checkpoint.proofs.checkpointer.Checkpointer.write.Goals as goal

pub returns-in_err-seq-clause-writes : goal.returns-in_err-seq-clause-writes
returns-in_err-seq-clause-writes g c = λ told fits.
    let keep = c.args.self.now in
    let disk = g.D.Disk.state c.args.disk.now in
    let checkpoint : Checkpoint = record { life = c.args.life; rows = c.args.map.now } in
    let p = err_from_is_err_and c.from_residual.result c.from_residual.ensures.1 in
    subst (λ r. WritesCheckpoint keep disk keep disk (record { seq = keep.seq + 1; checkpoint = checkpoint }) r) (sym p.1)
    (nothing-written keep disk (record { seq = keep.seq + 1; checkpoint = checkpoint }) p.0 fits)

pub returns-in_err-body-clause-writes : goal.returns-in_err-body-clause-writes
returns-in_err-body-clause-writes g c = λ told fits.
    let keep = c.args.self.now in
    let disk = g.D.Disk.state c.args.disk.now in
    let checkpoint : Checkpoint = record { life = c.args.life; rows = c.args.map.now } in
    let p = err_from_is_err_and c.from_residual-in_err-body.result c.from_residual-in_err-body.ensures.1 in
    subst (λ r. WritesCheckpoint keep disk keep disk (record { seq = keep.seq + 1; checkpoint = checkpoint }) r) (sym p.1)
    (nothing-written keep disk (record { seq = keep.seq + 1; checkpoint = checkpoint }) p.0 fits)

pub returns-in_err-write_body-clause-writes : goal.returns-in_err-write_body-clause-writes
returns-in_err-write_body-clause-writes g c = λ told fits.
    let keep = c.args.self.now in
    let before = g.D.Disk.state c.args.disk.now in
    let now = g.D.Disk.state c.write_body.new.disk in
    let checkpoint : Checkpoint = record { life = c.args.life; rows = c.args.map.now } in
    let saved : Saved = record { seq = c.in_ok-seq.seq; checkpoint = checkpoint } in
    let p = err_from_is_err_and c.from_residual-in_err-write_body.result c.from_residual-in_err-write_body.ensures.1 in
    subst (λ r. WritesCheckpoint keep before c.write_body.new.keep now (record { seq = keep.seq + 1; checkpoint = checkpoint }) r) (sym p.1)
    (failed-write c.self.inside.keep keep c.write_body.new.keep before now c.in_ok-seq.seq checkpoint _ p.0 c.self.view_is c.in_ok-seq.ensures.ok.0
    (c.in_err-write_body.ensures.writes saved c.body_of.ensures.saved c.in_ok-seq.ensures.ok.0 (c.as_slice.ensures.value ∙ c.in_ok-body.ensures.body) told
    (subst (λ (k : Keep). Fits k before) (sym c.self.view_is) fits)))

pub returns-clause-writes : goal.returns-clause-writes
returns-clause-writes g c = λ told fits.
    let keep = c.args.self.now in
    let before = g.D.Disk.state c.args.disk.now in
    let now = g.D.Disk.state c.write_body.new.disk in
    let checkpoint : Checkpoint = record { life = c.args.life; rows = c.args.map.now } in
    let saved : Saved = record { seq = c.in_ok-seq.seq; checkpoint = checkpoint } in
    done-write c.self.inside.keep keep c.write_body.new.keep before now c.in_ok-seq.seq checkpoint c.in_ok-write_body.field-0 (tt {0}) c.self.view_is c.in_ok-seq.ensures.ok.0
    (c.in_ok-write_body.ensures.writes saved c.body_of.ensures.saved c.in_ok-seq.ensures.ok.0 (c.as_slice.ensures.value ∙ c.in_ok-body.ensures.body) told
    (subst (λ (k : Keep). Fits k before) (sym c.self.view_is) fits))
