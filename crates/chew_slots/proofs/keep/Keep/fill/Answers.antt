-- By what the two device calls answer.
use Rattle.std.proofs.Common.{length, sym, ap, ◌∙◌, subst}
use Rattle.chew_spec_disk.specs.Sync.{SyncAnswers}
use Rattle.chew_spec_disk.specs.Write.{WriteAnswers}
use Rattle.chew_spec_disk.proofs.Calls.{write-done}
use Rattle.chew_spec_slots.proofs.Stages.{fills-by-calls, fills-failed, room-for, stage-body, stage-body-failed, stage-start, stage-sync-failed}
use Rattle.chew_spec_outside.specs.Faults.{risen}
use Rattle.chew_slots.proofs.Moments.{both-later, sync-rises, write-later, write-rises}
use Rattle.chew_slots.proofs.keep.Keep.fill.Goals as goal

pub returns-then-is_err-clause-fills : goal.returns-then-is_err-clause-fills
returns-then-is_err-clause-fills g c saved is next same told fits =
    let keep = c.args.self.now in
    let before = g.D.Disk.state c.args.disk.now in
    let now = g.D.Disk.state c.write_at.new.self in
    let wrote = subst (λ s. WriteAnswers s 1 c.args.body.now before now c.write_at.result) c.target-target.ensures.slot (c.write_at.ensures.answer told) in
    fills-failed keep before now saved _ c.requires.shut
    (stage-body-failed keep c.args.body.now before before now c.write_at.result (stage-start keep before fits) c.requires.shut (room-for saved c.args.body.now is same)
    wrote (sym c.is_err.ensures.value ∙ c.if-is_err.true) (c.write_at.ensures.is_disk told))

pub returns-then-is_err-2-clause-fills : goal.returns-then-is_err-2-clause-fills
returns-then-is_err-2-clause-fills g c saved is next same told fits =
    let keep = c.args.self.now in
    let before = g.D.Disk.state c.args.disk.now in
    let now = g.D.Disk.state c.write_at.new.self in
    let after = g.D.Disk.state c.sync.new.self in
    let told_now = c.write_at.ensures.told ∙ told in
    let wrote = subst (λ s. WriteAnswers s 1 c.args.body.now before now c.write_at.result) c.target-target.ensures.slot (c.write_at.ensures.answer told) in
    let done = write-done keep.target 1 c.args.body.now before now c.write_at.result wrote (sym c.is_err.ensures.value ∙ c.if-is_err.false) in
    fills-failed keep before after saved _ c.requires.shut
    (stage-sync-failed keep c.target-target.result before now after c.sync.result
    (stage-body keep (length c.args.body.now) before before now (stage-start keep before fits) c.requires.shut (room-for saved c.args.body.now is same) done.writes (c.write_at.ensures.is_disk told))
    (c.sync.ensures.answer told_now) (sym c.is_err-2.ensures.value ∙ c.if-is_err-2.true) (c.sync.ensures.is_disk told_now))

pub returns-clause-fills : goal.returns-clause-fills
returns-clause-fills g c saved is next same told fits =
    let keep = c.args.self.now in
    let before = g.D.Disk.state c.args.disk.now in
    let now = g.D.Disk.state c.write_at.new.self in
    let after = g.D.Disk.state c.sync.new.self in
    let told_now = c.write_at.ensures.told ∙ told in
    let target = c.target-target.ensures.slot in
    let wrote = subst (λ s. WriteAnswers s 1 c.args.body.now before now c.write_at.result) target (c.write_at.ensures.answer told) in
    let synced = subst (λ s. SyncAnswers s now after c.sync.result) target (c.sync.ensures.answer told_now) in
    fills-by-calls keep c.args.body.now before now after c.write_at.result c.sync.result saved tt fits c.requires.shut is next same
    (c.write_at.ensures.is_disk told) (c.sync.ensures.is_disk told_now)
    wrote (sym c.is_err.ensures.value ∙ c.if-is_err.false) synced (sym c.is_err-2.ensures.value ∙ c.if-is_err-2.false)

pub returns-then-is_err-clause-calls : goal.returns-then-is_err-clause-calls
returns-then-is_err-clause-calls g c told =
    write-rises c.target-target.result 1 c.args.body.now (g.D.Disk.state c.args.disk.now) (g.D.Disk.state c.write_at.new.self) c.write_at.result (c.write_at.ensures.answer told)

pub returns-then-is_err-2-clause-calls : goal.returns-then-is_err-2-clause-calls
returns-then-is_err-2-clause-calls g c told =
    let before = g.D.Disk.state c.args.disk.now in
    let now = g.D.Disk.state c.write_at.new.self in
    sync-rises c.target-target.result now (g.D.Disk.state c.sync.new.self) c.sync.result (c.sync.ensures.answer (c.write_at.ensures.told ∙ told))
    ∙ ap risen (write-rises c.target-target.result 1 c.args.body.now before now c.write_at.result (c.write_at.ensures.answer told))

pub returns-clause-calls : goal.returns-clause-calls
returns-clause-calls g c told =
    let before = g.D.Disk.state c.args.disk.now in
    let now = g.D.Disk.state c.write_at.new.self in
    sync-rises c.target-target.result now (g.D.Disk.state c.sync.new.self) c.sync.result (c.sync.ensures.answer (c.write_at.ensures.told ∙ told))
    ∙ ap risen (write-rises c.target-target.result 1 c.args.body.now before now c.write_at.result (c.write_at.ensures.answer told))

pub returns-then-is_err-clause-later : goal.returns-then-is_err-clause-later
returns-then-is_err-clause-later g c told =
    write-later c.target-target.result 1 c.args.body.now (g.D.Disk.state c.args.disk.now) (g.D.Disk.state c.write_at.new.self) c.write_at.result (c.write_at.ensures.answer told)

pub returns-then-is_err-2-clause-later : goal.returns-then-is_err-2-clause-later
returns-then-is_err-2-clause-later g c told =
    both-later c.target-target.result 1 c.args.body.now (g.D.Disk.state c.args.disk.now) (g.D.Disk.state c.write_at.new.self) (g.D.Disk.state c.sync.new.self) c.write_at.result c.sync.result
    (c.write_at.ensures.answer told) (c.sync.ensures.answer (c.write_at.ensures.told ∙ told))

pub returns-clause-later : goal.returns-clause-later
returns-clause-later g c told =
    both-later c.target-target.result 1 c.args.body.now (g.D.Disk.state c.args.disk.now) (g.D.Disk.state c.write_at.new.self) (g.D.Disk.state c.sync.new.self) c.write_at.result c.sync.result
    (c.write_at.ensures.answer told) (c.sync.ensures.answer (c.write_at.ensures.told ∙ told))
