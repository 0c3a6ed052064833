-- By what the two device calls answer.
use Rattle.std.proofs.Common.{[], ◌∷◌, cond, sym, ap, ◌∙◌, subst}
use Rattle.chew_spec_disk.specs.Sync.{SyncAnswers}
use Rattle.chew_spec_disk.specs.Write.{WriteAnswers}
use Rattle.chew_spec_slots.proofs.Stages.{shuts-already, shuts-as, shuts-by-calls, shuts-failed, stage-gate, stage-gate-failed, stage-start, stage-sync-failed}
use Rattle.chew_spec_disk.proofs.Calls.{write-done}
use Rattle.chew_spec_disk.proofs.Moments.{later-same}
use Rattle.chew_spec_outside.specs.Faults.{risen}
use Rattle.chew_slots.proofs.Moments.{both-later, sync-rises, write-later, write-rises}
use Rattle.chew_slots.proofs.keep.Keep.close_gate.Goals as goal

pub returns-then-is_shut-clause-shuts : goal.returns-then-is_shut-clause-shuts
returns-then-is_shut-clause-shuts g c told fits =
    shuts-already c.args.self.now (g.D.Disk.state c.args.disk.now) _ fits (sym c.is_shut.ensures ∙ c.if-is_shut.true)

pub returns-then-is_err-clause-shuts : goal.returns-then-is_err-clause-shuts
returns-then-is_err-clause-shuts g c told fits =
    let keep = c.args.self.now in
    let before = g.D.Disk.state c.args.disk.now in
    let now = g.D.Disk.state c.write_at.new.self in
    let answer = subst (λ s. WriteAnswers s 0 (0 ∷ []) before now c.write_at.result) c.target-slot.ensures.slot (c.write_at.ensures.answer told) in
    shuts-failed keep before now _
    (stage-gate-failed keep 0 before before now c.write_at.result (stage-start keep before fits)
    (sym c.is_shut.ensures ∙ c.if-is_shut.false) answer (sym c.is_err.ensures.value ∙ c.if-is_err.true) (c.write_at.ensures.is_disk told))

pub returns-then-is_err-2-clause-shuts : goal.returns-then-is_err-2-clause-shuts
returns-then-is_err-2-clause-shuts g c told fits =
    let keep = c.args.self.now in
    let before = g.D.Disk.state c.args.disk.now in
    let now = g.D.Disk.state c.write_at.new.self in
    let after = g.D.Disk.state c.sync.new.self in
    let told_now = c.write_at.ensures.told ∙ told in
    let unsure = sym c.is_shut.ensures ∙ c.if-is_shut.false in
    let answer = subst (λ s. WriteAnswers s 0 (0 ∷ []) before now c.write_at.result) c.target-slot.ensures.slot (c.write_at.ensures.answer told) in
    let done = write-done keep.target 0 (0 ∷ []) before now c.write_at.result answer (sym c.is_err.ensures.value ∙ c.if-is_err.false) in
    shuts-failed keep before after _
    (stage-sync-failed keep c.target-slot.result before now after c.sync.result
    (stage-gate keep before before now (stage-start keep before fits) unsure done.writes (c.write_at.ensures.is_disk told))
    (c.sync.ensures.answer told_now) (sym c.is_err-2.ensures.value ∙ c.if-is_err-2.true) (c.sync.ensures.is_disk told_now))

pub returns-clause-shuts : goal.returns-clause-shuts
returns-clause-shuts g c told fits =
    let keep = c.args.self.now in
    let before = g.D.Disk.state c.args.disk.now in
    let now = g.D.Disk.state c.write_at.new.self in
    let after = g.D.Disk.state c.sync.new.self in
    let told_now = c.write_at.ensures.told ∙ told in
    let target = c.target-slot.ensures.slot in
    let unsure = sym c.is_shut.ensures ∙ c.if-is_shut.false in
    let wrote = subst (λ s. WriteAnswers s 0 (0 ∷ []) before now c.write_at.result) target (c.write_at.ensures.answer told) in
    let synced = subst (λ s. SyncAnswers s now after c.sync.result) target (c.sync.ensures.answer told_now) in
    shuts-as keep before _ _ after _ c.set_shut.ensures
    (shuts-by-calls keep before now after c.write_at.result c.sync.result tt fits unsure (c.write_at.ensures.is_disk told) (c.sync.ensures.is_disk told_now)
    wrote (sym c.is_err.ensures.value ∙ c.if-is_err.false) synced (sym c.is_err-2.ensures.value ∙ c.if-is_err-2.false))

pub returns-then-is_err-clause-calls : goal.returns-then-is_err-clause-calls
returns-then-is_err-clause-calls g c told =
    write-rises c.target-slot.result 0 (0 ∷ []) (g.D.Disk.state c.args.disk.now) (g.D.Disk.state c.write_at.new.self) c.write_at.result (c.write_at.ensures.answer told)

pub returns-then-is_err-2-clause-calls : goal.returns-then-is_err-2-clause-calls
returns-then-is_err-2-clause-calls g c told =
    let before = g.D.Disk.state c.args.disk.now in
    let now = g.D.Disk.state c.write_at.new.self in
    sync-rises c.target-slot.result now (g.D.Disk.state c.sync.new.self) c.sync.result (c.sync.ensures.answer (c.write_at.ensures.told ∙ told))
    ∙ ap risen (write-rises c.target-slot.result 0 (0 ∷ []) before now c.write_at.result (c.write_at.ensures.answer told))

pub returns-clause-calls : goal.returns-clause-calls
returns-clause-calls g c told =
    let before = g.D.Disk.state c.args.disk.now in
    let now = g.D.Disk.state c.write_at.new.self in
    sync-rises c.target-slot.result now (g.D.Disk.state c.sync.new.self) c.sync.result (c.sync.ensures.answer (c.write_at.ensures.told ∙ told))
    ∙ ap risen (write-rises c.target-slot.result 0 (0 ∷ []) before now c.write_at.result (c.write_at.ensures.answer told))
    ∙ sym (ap (λ b. cond b before.moment (risen (risen before.moment))) (sym c.is_shut.ensures ∙ c.if-is_shut.false))

pub returns-then-is_shut-clause-calls : goal.returns-then-is_shut-clause-calls
returns-then-is_shut-clause-calls g c told =
    let before = g.D.Disk.state c.args.disk.now in
    sym (ap (λ b. cond b before.moment (risen (risen before.moment))) (sym c.is_shut.ensures ∙ c.if-is_shut.true))

pub returns-then-is_err-clause-later : goal.returns-then-is_err-clause-later
returns-then-is_err-clause-later g c told =
    write-later c.target-slot.result 0 (0 ∷ []) (g.D.Disk.state c.args.disk.now) (g.D.Disk.state c.write_at.new.self) c.write_at.result (c.write_at.ensures.answer told)

pub returns-then-is_err-2-clause-later : goal.returns-then-is_err-2-clause-later
returns-then-is_err-2-clause-later g c told =
    both-later c.target-slot.result 0 (0 ∷ []) (g.D.Disk.state c.args.disk.now) (g.D.Disk.state c.write_at.new.self) (g.D.Disk.state c.sync.new.self) c.write_at.result c.sync.result
    (c.write_at.ensures.answer told) (c.sync.ensures.answer (c.write_at.ensures.told ∙ told))

pub returns-clause-later : goal.returns-clause-later
returns-clause-later g c told =
    both-later c.target-slot.result 0 (0 ∷ []) (g.D.Disk.state c.args.disk.now) (g.D.Disk.state c.write_at.new.self) (g.D.Disk.state c.sync.new.self) c.write_at.result c.sync.result
    (c.write_at.ensures.answer told) (c.sync.ensures.answer (c.write_at.ensures.told ∙ told))

pub returns-then-is_shut-clause-later : goal.returns-then-is_shut-clause-later
returns-then-is_shut-clause-later g c told = later-same (g.D.Disk.state c.args.disk.now)
