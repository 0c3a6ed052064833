-- By what the two device calls answer.
use Rattle.std.proofs.Common.{[], ◌∷◌, false, sym, ap, ◌∙◌, subst}
use Rattle.chew_spec_disk.specs.Sync.{SyncAnswers}
use Rattle.chew_spec_disk.specs.Write.{WriteAnswers}
use Rattle.chew_spec_disk.proofs.Calls.{write-done}
use Rattle.chew_spec_slots.specs.Keep.{Keep, advanced, with_shut}
use Rattle.chew_spec_slots.specs.Slot.{open_gate}
use Rattle.chew_spec_slots.proofs.Advance.{with_shut-own}
use Rattle.chew_spec_slots.proofs.Stages.{advanced-same, lift-start, lifts-as, lifts-by-calls, lifts-failed, stage-gate, stage-gate-failed, stage-sync-failed}
use Rattle.chew_spec_outside.specs.Faults.{risen}
use Rattle.chew_slots.proofs.Moments.{both-later, sync-rises, write-later, write-rises}
use Rattle.chew_slots.proofs.keep.Keep.lift_gate.Goals as goal

pub returns-then-is_err-clause-lifts : goal.returns-then-is_err-clause-lifts
returns-then-is_err-clause-lifts g c saved told fits filled =
    let keep = c.args.self.now in
    let before = g.D.Disk.state c.args.disk.now in
    let now = g.D.Disk.state c.write_at.new.self in
    let target = c.target-lifted.ensures.slot ∙ ap (λ (k : Keep). k.target) c.set_shut.ensures in
    let wrote = subst (λ s. WriteAnswers s 0 (open_gate ∷ []) before now c.write_at.result) target (c.write_at.ensures.answer told) in
    lifts-as keep before _ _ now saved _ c.set_shut.ensures
    (lifts-failed keep before now saved _ fits filled
    (stage-gate-failed (with_shut keep keep.target false) open_gate before before now c.write_at.result (lift-start keep before saved fits filled)
    (with_shut-own keep false keep.target fits.target) wrote (sym c.is_err.ensures.value ∙ c.if-is_err.true) (c.write_at.ensures.is_disk told)))

pub returns-then-is_err-2-clause-lifts : goal.returns-then-is_err-2-clause-lifts
returns-then-is_err-2-clause-lifts g c saved told fits filled =
    let keep = c.args.self.now in
    let unsure = with_shut keep keep.target false in
    let before = g.D.Disk.state c.args.disk.now in
    let now = g.D.Disk.state c.write_at.new.self in
    let after = g.D.Disk.state c.sync.new.self in
    let told_now = c.write_at.ensures.told ∙ told in
    let target = c.target-lifted.ensures.slot ∙ ap (λ (k : Keep). k.target) c.set_shut.ensures in
    let wrote = subst (λ s. WriteAnswers s 0 (open_gate ∷ []) before now c.write_at.result) target (c.write_at.ensures.answer told) in
    let done = write-done keep.target 0 (open_gate ∷ []) before now c.write_at.result wrote (sym c.is_err.ensures.value ∙ c.if-is_err.false) in
    lifts-as keep before _ _ after saved _ c.set_shut.ensures
    (lifts-failed keep before after saved _ fits filled
    (stage-sync-failed unsure c.target-lifted.result before now after c.sync.result
    (stage-gate unsure before before now (lift-start keep before saved fits filled) (with_shut-own keep false keep.target fits.target) done.writes (c.write_at.ensures.is_disk told))
    (c.sync.ensures.answer told_now) (sym c.is_err-2.ensures.value ∙ c.if-is_err-2.true) (c.sync.ensures.is_disk told_now)))

pub returns-clause-lifts : goal.returns-clause-lifts
returns-clause-lifts g c saved told fits filled =
    let keep = c.args.self.now in
    let before = g.D.Disk.state c.args.disk.now in
    let now = g.D.Disk.state c.write_at.new.self in
    let after = g.D.Disk.state c.sync.new.self in
    let told_now = c.write_at.ensures.told ∙ told in
    let target = c.target-lifted.ensures.slot ∙ ap (λ (k : Keep). k.target) c.set_shut.ensures in
    let wrote = subst (λ s. WriteAnswers s 0 (open_gate ∷ []) before now c.write_at.result) target (c.write_at.ensures.answer told) in
    let synced = subst (λ s. SyncAnswers s now after c.sync.result) target (c.sync.ensures.answer told_now) in
    let then = c.advance.ensures ∙ (ap advanced c.set_shut.ensures ∙ advanced-same keep) in
    lifts-as keep before _ _ after saved _ then
    (lifts-by-calls keep before now after c.write_at.result c.sync.result saved tt fits filled (c.write_at.ensures.is_disk told) (c.sync.ensures.is_disk told_now)
    wrote (sym c.is_err.ensures.value ∙ c.if-is_err.false) synced (sym c.is_err-2.ensures.value ∙ c.if-is_err-2.false))

pub returns-then-is_err-clause-calls : goal.returns-then-is_err-clause-calls
returns-then-is_err-clause-calls g c told =
    write-rises c.target-lifted.result 0 (open_gate ∷ []) (g.D.Disk.state c.args.disk.now) (g.D.Disk.state c.write_at.new.self) c.write_at.result (c.write_at.ensures.answer told)

pub returns-then-is_err-2-clause-calls : goal.returns-then-is_err-2-clause-calls
returns-then-is_err-2-clause-calls g c told =
    let before = g.D.Disk.state c.args.disk.now in
    let now = g.D.Disk.state c.write_at.new.self in
    sync-rises c.target-lifted.result now (g.D.Disk.state c.sync.new.self) c.sync.result (c.sync.ensures.answer (c.write_at.ensures.told ∙ told))
    ∙ ap risen (write-rises c.target-lifted.result 0 (open_gate ∷ []) before now c.write_at.result (c.write_at.ensures.answer told))

pub returns-clause-calls : goal.returns-clause-calls
returns-clause-calls g c told =
    let before = g.D.Disk.state c.args.disk.now in
    let now = g.D.Disk.state c.write_at.new.self in
    sync-rises c.target-lifted.result now (g.D.Disk.state c.sync.new.self) c.sync.result (c.sync.ensures.answer (c.write_at.ensures.told ∙ told))
    ∙ ap risen (write-rises c.target-lifted.result 0 (open_gate ∷ []) before now c.write_at.result (c.write_at.ensures.answer told))

pub returns-then-is_err-clause-later : goal.returns-then-is_err-clause-later
returns-then-is_err-clause-later g c told =
    write-later c.target-lifted.result 0 (open_gate ∷ []) (g.D.Disk.state c.args.disk.now) (g.D.Disk.state c.write_at.new.self) c.write_at.result (c.write_at.ensures.answer told)

pub returns-then-is_err-2-clause-later : goal.returns-then-is_err-2-clause-later
returns-then-is_err-2-clause-later g c told =
    both-later c.target-lifted.result 0 (open_gate ∷ []) (g.D.Disk.state c.args.disk.now) (g.D.Disk.state c.write_at.new.self) (g.D.Disk.state c.sync.new.self) c.write_at.result c.sync.result
    (c.write_at.ensures.answer told) (c.sync.ensures.answer (c.write_at.ensures.told ∙ told))

pub returns-clause-later : goal.returns-clause-later
returns-clause-later g c told =
    both-later c.target-lifted.result 0 (open_gate ∷ []) (g.D.Disk.state c.args.disk.now) (g.D.Disk.state c.write_at.new.self) (g.D.Disk.state c.sync.new.self) c.write_at.result c.sync.result
    (c.write_at.ensures.answer told) (c.sync.ensures.answer (c.write_at.ensures.told ∙ told))
