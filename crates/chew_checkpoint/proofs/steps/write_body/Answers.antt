-- By the laws of writing by steps.
use Rattle.std.proofs.Common.{◌+◌, ◌∙◌, ap, sym, subst}
use Rattle.std.proofs.lemmas.Result.{err_from_is_err_and}
use Rattle.chew_spec_disk.proofs.Moments.{later-chain}
use Rattle.chew_spec_slots.specs.Keep.{Keep}
use Rattle.chew_spec_rounds.specs.WriteSteps.{WritesCheckpoint}
use Rattle.chew_spec_rounds.proofs.Steps.{shutting-fails}
use Rattle.chew_checkpoint.proofs.Writing.{last-step, no-body}
use Rattle.chew_checkpoint.proofs.steps.write_body.Goals as goal

pub returns-in_err-close_gate-clause-writes : goal.returns-in_err-close_gate-clause-writes
returns-in_err-close_gate-clause-writes g c = λ saved is next same told fits.
    let before = g.D.Disk.state c.args.disk.now in
    let shut = g.D.Disk.state c.close_gate.new.disk in
    let p = err_from_is_err_and c.from_residual.result c.from_residual.ensures.1 in
    subst (λ r. WritesCheckpoint c.args.keep.now before c.close_gate.new.self shut saved r) (sym p.1)
    (shutting-fails before shut c.args.keep.now c.close_gate.new.self saved _ _ (c.close_gate.ensures.later told) (c.in_err-close_gate.ensures.shuts told fits))

pub returns-in_err-fill-clause-writes : goal.returns-in_err-fill-clause-writes
returns-in_err-fill-clause-writes g c = λ saved is next same told fits.
    let before = g.D.Disk.state c.args.disk.now in
    let shut = g.D.Disk.state c.close_gate.new.disk in
    let filled = g.D.Disk.state c.fill.new.disk in
    let told_shut = c.close_gate.ensures.told ∙ told in
    let shuts = c.in_ok-close_gate.ensures.shuts told fits in
    let next_shut = next ∙ ap (λ (k : Keep). k.seq + 1) (sym c.in_ok-close_gate.ensures.ok) in
    let p = err_from_is_err_and c.from_residual-in_err-fill.result c.from_residual-in_err-fill.ensures.1 in
    subst (λ r. WritesCheckpoint c.args.keep.now before c.fill.new.self filled saved r) (sym p.1)
    (no-body before shut filled c.args.keep.now c.close_gate.new.self c.fill.new.self saved _ _ _ c.fill.ensures.same
    (c.close_gate.ensures.later told) (c.fill.ensures.later told_shut)
    shuts (c.in_err-fill.ensures.fills saved is next_shut same told_shut shuts.fits))

pub returns-clause-later : goal.returns-clause-later
returns-clause-later g c = λ told.
    let before = g.D.Disk.state c.args.disk.now in
    let shut = g.D.Disk.state c.close_gate.new.disk in
    let filled = g.D.Disk.state c.fill.new.disk in
    let lifted = g.D.Disk.state c.lift_gate.new.disk in
    let told_shut = c.close_gate.ensures.told ∙ told in
    later-chain before filled lifted
    (later-chain before shut filled (c.close_gate.ensures.later told) (c.fill.ensures.later told_shut))
    (c.lift_gate.ensures.later (c.fill.ensures.told ∙ told_shut))

pub returns-clause-writes : goal.returns-clause-writes
returns-clause-writes g c = λ saved is next same told fits.
    let before = g.D.Disk.state c.args.disk.now in
    let shut = g.D.Disk.state c.close_gate.new.disk in
    let filled = g.D.Disk.state c.fill.new.disk in
    let lifted = g.D.Disk.state c.lift_gate.new.disk in
    let told_shut = c.close_gate.ensures.told ∙ told in
    let told_filled = c.fill.ensures.told ∙ told_shut in
    let shuts = c.in_ok-close_gate.ensures.shuts told fits in
    let next_shut = next ∙ ap (λ (k : Keep). k.seq + 1) (sym c.in_ok-close_gate.ensures.ok) in
    let fills = c.in_ok-fill.ensures.fills saved is next_shut same told_shut shuts.fits in
    last-step _ before shut filled lifted c.args.keep.now c.close_gate.new.self c.fill.new.self c.lift_gate.new.self saved tt c.lift_gate.result c.fill.ensures.same
    (c.close_gate.ensures.later told) (c.fill.ensures.later told_shut) (c.lift_gate.ensures.later told_filled)
    (c.lift_gate.ensures.calls told_filled) (λ x. shuts) (λ x. fills)
    (c.lift_gate.ensures.lifts saved told_filled)
