-- By what both slots are read as.
use Rattle.std.proofs.Common.{refl, sym, ap, ◌∙◌}
use Rattle.std.proofs.lemmas.Result.{err_from_is_err_and}
use Rattle.chew_spec_slots.specs.Recovery.{refusal}
use Rattle.chew_slots.proofs.Moments.{both-calls}
use Rattle.chew_slots.proofs.Recovering.{all-found, answer-by, first-refused, fits-ok, left-ok, second-refused, state-ok}
use Rattle.chew_slots.proofs.recovery.recover.Goals as goal

pub returns-in_err-zero-clause-answer : goal.returns-in_err-zero-clause-answer
returns-in_err-zero-clause-answer g c =
    let r = c.in_err-zero.ensures.reads in
    let one = (g.D.Disk.state c.args.disk.now).reads 1 in
    let p = err_from_is_err_and c.from_residual.result c.from_residual.ensures.1 in
    rw (p.1, p.2) (r.0, one, r.1, λ told. refl, first-refused r.0 one c.in_err-zero.field-0.0 r.2)

pub returns-in_err-one-clause-answer : goal.returns-in_err-one-clause-answer
returns-in_err-one-clause-answer g c =
    let r = c.in_ok-zero.ensures.reads in
    let s = c.in_err-one.ensures.reads in
    let p = err_from_is_err_and c.from_residual-in_err-one.result c.from_residual-in_err-one.ensures.1 in
    rw (p.1, p.2) (r.0, s.0, r.1, λ told. s.1 (c.in_ok-zero.ensures.told ∙ told) ∙ (c.in_ok-zero.ensures.untouched told).reads 1, second-refused r.0 s.0 c.in_err-one.field-0.0 r.2.fine s.2)

pub returns-clause-answer : goal.returns-clause-answer
returns-clause-answer g c =
    let r = c.in_ok-zero.ensures.reads in
    let s = c.in_ok-one.ensures.reads in (
      r.0,
      s.0,
      r.1,
      λ told. s.1 (c.in_ok-zero.ensures.told ∙ told) ∙ (c.in_ok-zero.ensures.untouched told).reads 1,
      answer-by r.0 s.0 c.in_ok-zero.zero c.in_ok-one.one c.newer.result r.2 s.2 c.newer.ensures.keep c.newer.ensures.state c.newer.ensures.memory,
    )

pub returns-clause-fits : goal.returns-clause-fits
returns-clause-fits g c told zero one =
    let r = c.in_ok-zero.ensures.reads in
    let s = c.in_ok-one.ensures.reads in
    let told_now = c.in_ok-zero.ensures.told ∙ told in
    let before = g.D.Disk.state c.args.disk.now in
    let middle = g.D.Disk.state c.read_slot.new.disk in
    let after = g.D.Disk.state c.read_slot-2.new.disk in
    fits-ok after c.newer.result
    (all-found before middle after r.0 s.0 c.in_ok-zero.zero c.in_ok-one.one c.newer.result (c.in_ok-zero.ensures.untouched told) (c.in_ok-one.ensures.untouched told_now)
    (c.in_ok-one.ensures.is_disk told_now) zero one (r.1 told) (s.1 told_now) r.2 s.2 c.newer.ensures.keep c.newer.ensures.state c.newer.ensures.memory)

pub returns-clause-state : goal.returns-clause-state
returns-clause-state g c told zero one =
    let r = c.in_ok-zero.ensures.reads in
    let s = c.in_ok-one.ensures.reads in
    let told_now = c.in_ok-zero.ensures.told ∙ told in
    let before = g.D.Disk.state c.args.disk.now in
    let middle = g.D.Disk.state c.read_slot.new.disk in
    let after = g.D.Disk.state c.read_slot-2.new.disk in
    state-ok after c.newer.result
    (all-found before middle after r.0 s.0 c.in_ok-zero.zero c.in_ok-one.one c.newer.result (c.in_ok-zero.ensures.untouched told) (c.in_ok-one.ensures.untouched told_now)
    (c.in_ok-one.ensures.is_disk told_now) zero one (r.1 told) (s.1 told_now) r.2 s.2 c.newer.ensures.keep c.newer.ensures.state c.newer.ensures.memory)

pub returns-clause-left : goal.returns-clause-left
returns-clause-left g c told zero one =
    let r = c.in_ok-zero.ensures.reads in
    let s = c.in_ok-one.ensures.reads in
    let told_now = c.in_ok-zero.ensures.told ∙ told in
    let before = g.D.Disk.state c.args.disk.now in
    let middle = g.D.Disk.state c.read_slot.new.disk in
    let after = g.D.Disk.state c.read_slot-2.new.disk in
    left-ok after c.newer.result
    (all-found before middle after r.0 s.0 c.in_ok-zero.zero c.in_ok-one.one c.newer.result (c.in_ok-zero.ensures.untouched told) (c.in_ok-one.ensures.untouched told_now)
    (c.in_ok-one.ensures.is_disk told_now) zero one (r.1 told) (s.1 told_now) r.2 s.2 c.newer.ensures.keep c.newer.ensures.state c.newer.ensures.memory)

pub returns-in_err-one-clause-calls : goal.returns-in_err-one-clause-calls
returns-in_err-one-clause-calls g c told =
    let told_now = c.in_ok-zero.ensures.told ∙ told in
    both-calls (g.D.Disk.state c.args.disk.now) (g.D.Disk.state c.read_slot.new.disk) (g.D.Disk.state c.read_slot-2.new.disk)
    (c.in_ok-zero.ensures.calls told) ((c.in_ok-zero.ensures.untouched told).reads 1) (c.in_err-one.ensures.calls told_now)

pub returns-clause-calls : goal.returns-clause-calls
returns-clause-calls g c told =
    let told_now = c.in_ok-zero.ensures.told ∙ told in
    both-calls (g.D.Disk.state c.args.disk.now) (g.D.Disk.state c.read_slot.new.disk) (g.D.Disk.state c.read_slot-2.new.disk)
    (c.in_ok-zero.ensures.calls told) ((c.in_ok-zero.ensures.untouched told).reads 1) (c.in_ok-one.ensures.calls told_now)

pub returns-in_err-one-clause-order : goal.returns-in_err-one-clause-order
returns-in_err-one-clause-order g c told refused =
    let r = c.in_ok-zero.ensures.reads in
    absurd (refused (ap (refusal 0) (sym (r.1 told)) ∙ r.2.fine))

pub returns-clause-order : goal.returns-clause-order
returns-clause-order g c told refused =
    let r = c.in_ok-zero.ensures.reads in
    absurd (refused (ap (refusal 0) (sym (r.1 told)) ∙ r.2.fine))
