-- By the laws of rounds: the keeper's calls in what it has seen, and what was written of its snapshot.
use Rattle.std.proofs.Common.{[], ◌∷◌, refl, inr, sym, subst}
use Rattle.std.specs.Arc.{arc_value}
use Rattle.std.proofs.lemmas.Result.{IfErr-at_err}
use Rattle.chew_spec_dictionary.specs.Call.{Freeze, Frozen, Install, Installed}
use Rattle.chew_spec_layers.specs.Layers.{Waiting}
use Rattle.chew_spec_cell.specs.Sight.{HasSeen}
use Rattle.chew_spec_rounds.specs.Round as spec
use Rattle.chew_spec_rounds.specs.Round.{IsRound}
use Rattle.chew_checkpoint.specs.Answers.{round_of}
use Rattle.chew_checkpoint.proofs.Rounding.{fault-in-step, fault-is-round, no-round, not-spent, saved-is-round, saved-stays-in-step, unwritten-in-step, unwritten-is-round}
use Rattle.chew_checkpoint.proofs.Seen.{grew-by-call, grew-by-others, grew-twice}
use Rattle.chew_checkpoint.proofs.checkpointer.Checkpointer.round.Goals as goal

pub returns-in-Some-clause-round : goal.returns-in-Some-clause-round
returns-in-Some-clause-round g c = λ told step legal.
    let seen = c.args.keeper.seen in
    unwritten-is-round c.args.self.now (g.D.Disk.state c.args.disk.now) c.args.shared.now.start seen seen (spec.SeqSpent c.in-Some.seq) [] (no-round seen) refl refl legal step

pub returns-in-Err-clause-in_step : goal.returns-in-Err-clause-in_step
returns-in-Err-clause-in_step g c = λ told step legal.
    let seen = c.args.keeper.seen in
    let now = c.freeze-keeper.result.0.seen in
    let has = IfErr-at_err (λ _. HasSeen c.args.keeper.who seen now) c.in-Err.is c.freeze-keeper.ensures.err in
    unwritten-in-step c.args.self.now (g.D.Disk.state c.args.disk.now) c.args.shared.now.start seen now spec.NoMemory [] (grew-by-others c.args.keeper.who seen now c.requires.keeper has) refl (inr refl)
    c.freeze-keeper.ensures.legal step

pub returns-in-Err-clause-round : goal.returns-in-Err-clause-round
returns-in-Err-clause-round g c = λ told step legal.
    let seen = c.args.keeper.seen in
    let now = c.freeze-keeper.result.0.seen in
    let has = IfErr-at_err (λ _. HasSeen c.args.keeper.who seen now) c.in-Err.is c.freeze-keeper.ensures.err in
    unwritten-is-round c.args.self.now (g.D.Disk.state c.args.disk.now) c.args.shared.now.start seen now spec.NoMemory [] (grew-by-others c.args.keeper.who seen now c.requires.keeper has) refl (inr refl)
    c.freeze-keeper.ensures.legal step

pub returns-in-Ok-save-clause-calls : goal.returns-in-Ok-save-clause-calls
returns-in-Ok-save-clause-calls g c =
    let seen = c.args.keeper.seen in
    let frozen = c.freeze-keeper.result.0.seen in
    let upto = c.in-Ok.snapshot.upto in
    let is = rw c.in-Ok.is at c.freeze-keeper.ensures.snapshot in
    let asked = rw c.in-Ok.is at c.freeze-keeper.ensures.ok in
    let grew = grew-by-call c.args.keeper Freeze (Frozen upto) frozen c.requires.keeper asked in
    let installs = grew-by-call c.freeze-keeper.result.0 (Install upto) Installed c.install.result.seen c.freeze-keeper.ensures.who (c.install.ensures.ok upto is.waits) in
    let both = grew-twice seen frozen c.install.result.seen (Freeze ∷ []) (Install upto ∷ []) grew installs in
    (both.more, both.joined, both.made)

pub returns-in-Ok-save-clause-in_step : goal.returns-in-Ok-save-clause-in_step
returns-in-Ok-save-clause-in_step g c = λ told step legal.
    let seen = c.args.keeper.seen in
    let frozen = c.freeze-keeper.result.0.seen in
    let snapshot = c.in-Ok.snapshot in
    let layer : Waiting = record { marks = arc_value snapshot.frozen; number = snapshot.upto; life = snapshot.life } in
    let is = rw c.in-Ok.is at c.freeze-keeper.ensures.snapshot in
    let asked = rw c.in-Ok.is at c.freeze-keeper.ensures.ok in
    let grew = grew-by-call c.args.keeper Freeze (Frozen snapshot.upto) frozen c.requires.keeper asked in
    let installs = grew-by-call c.freeze-keeper.result.0 (Install snapshot.upto) Installed c.install.result.seen c.freeze-keeper.ensures.who (c.install.ensures.ok snapshot.upto is.waits) in
    saved-stays-in-step c.args.self.now c.save.new.self (g.D.Disk.state c.args.disk.now) (g.D.Disk.state c.save.new.disk) c.args.shared.now.start seen frozen c.install.result.seen
    (arc_value snapshot.base) layer c.in-Ok-save.map grew installs c.install.ensures.legal is step (c.in-Ok-save.ensures.writes told step.fits)

pub returns-in-Ok-save-clause-round : goal.returns-in-Ok-save-clause-round
returns-in-Ok-save-clause-round g c = λ told step legal.
    let seen = c.args.keeper.seen in
    let frozen = c.freeze-keeper.result.0.seen in
    let snapshot = c.in-Ok.snapshot in
    let layer : Waiting = record { marks = arc_value snapshot.frozen; number = snapshot.upto; life = snapshot.life } in
    let is = rw c.in-Ok.is at c.freeze-keeper.ensures.snapshot in
    let asked = rw c.in-Ok.is at c.freeze-keeper.ensures.ok in
    let grew = grew-by-call c.args.keeper Freeze (Frozen snapshot.upto) frozen c.requires.keeper asked in
    let installs = grew-by-call c.freeze-keeper.result.0 (Install snapshot.upto) Installed c.install.result.seen c.freeze-keeper.ensures.who (c.install.ensures.ok snapshot.upto is.waits) in
    saved-is-round c.args.self.now c.save.new.self (g.D.Disk.state c.args.disk.now) (g.D.Disk.state c.save.new.disk) c.args.shared.now.start seen frozen c.install.result.seen
    (arc_value snapshot.base) layer c.in-Ok-save.map grew installs c.install.ensures.legal is step (c.in-Ok-save.ensures.writes told step.fits)

pub returns-clause-in_step : goal.returns-clause-in_step
returns-clause-in_step g c = λ told step legal.
    let snapshot = c.in-Ok.snapshot in
    let layer : Waiting = record { marks = arc_value snapshot.frozen; number = snapshot.upto; life = snapshot.life } in
    let frozen = c.freeze-keeper.result.0.seen in
    let is = rw c.in-Ok.is at c.freeze-keeper.ensures.snapshot in
    let asked = rw c.in-Ok.is at c.freeze-keeper.ensures.ok in
    let grew = grew-by-call c.args.keeper Freeze (Frozen snapshot.upto) frozen c.requires.keeper asked in
    fault-in-step c.args.self.now c.save.new.self (g.D.Disk.state c.args.disk.now) (g.D.Disk.state c.save.new.disk) c.args.shared.now.start c.args.keeper.seen frozen
    (arc_value snapshot.base) layer grew c.freeze-keeper.ensures.legal is step c.in-Err-save.fault (c.in-Err-save.ensures.writes told step.fits)

pub returns-clause-round : goal.returns-clause-round
returns-clause-round g c = λ told step legal.
    let snapshot = c.in-Ok.snapshot in
    let layer : Waiting = record { marks = arc_value snapshot.frozen; number = snapshot.upto; life = snapshot.life } in
    let frozen = c.freeze-keeper.result.0.seen in
    let is = rw c.in-Ok.is at c.freeze-keeper.ensures.snapshot in
    let asked = rw c.in-Ok.is at c.freeze-keeper.ensures.ok in
    let grew = grew-by-call c.args.keeper Freeze (Frozen snapshot.upto) frozen c.requires.keeper asked in
    let before = g.D.Disk.state c.args.disk.now in
    let now = g.D.Disk.state c.save.new.disk in
    let start = c.args.shared.now.start in
    subst (λ r. IsRound start c.args.keeper.seen frozen before now (round_of r)) (sym c.from.ensures)
    (fault-is-round c.args.self.now c.save.new.self before now start c.args.keeper.seen frozen (arc_value snapshot.base) layer grew c.freeze-keeper.ensures.legal is step c.in-Err-save.fault
    (not-spent c.self.inside.keep c.args.self.now c.in-Err-save.fault c.self.view_is c.in_default.ensures c.in-Err-save.ensures.spent)
    (c.in-Err-save.ensures.writes told step.fits))
