-- What recovery found, or why it found nothing.
use Rattle.chewing_cli.proofs.Recovered.{finds_fault, finds_found, ready_found, spares_fault}
use Rattle.chewing_cli.proofs.opening.open_slots.Goals as goal

pub returns-in-Ok-clause-finds : goal.returns-in-Ok-clause-finds
returns-in-Ok-clause-finds g c =
    let answer = c.in-Ok.ensures.answer in
    finds_found (g.D.Disk.told c.args.disk.now) (g.D.Disk.state c.args.disk.now) (g.D.Disk.state c.recover.new.disk)
    (g.D.Disk.faults c.args.disk.now) (g.D.Disk.faults c.recover.new.disk) answer.0 answer.1
    (record { life = c.in-Ok.found.life; rows = c.in-Ok.found.map }) c.in-Ok.found.keep answer.2 answer.3 answer.4.0 answer.4.1

pub returns-in-Ok-clause-ready : goal.returns-in-Ok-clause-ready
returns-in-Ok-clause-ready g c =
    ready_found (g.D.Disk.told c.args.disk.now) (g.D.Disk.state c.args.disk.now) (g.D.Disk.state c.recover.new.disk)
    (g.D.Disk.faults c.args.disk.now) (g.D.Disk.faults c.recover.new.disk) c.in-Ok.found c.in-Ok.ensures.cause
    c.in-Ok.ensures.untouched c.in-Ok.ensures.is_disk c.in-Ok.ensures.fits c.in-Ok.ensures.state c.in-Ok.ensures.left

pub returns-in-Err-clause-finds : goal.returns-in-Err-clause-finds
returns-in-Err-clause-finds g c =
    let answer = c.in-Err.ensures.answer in
    finds_fault (g.D.Disk.told c.args.disk.now) (g.D.Disk.state c.args.disk.now) (g.D.Disk.state c.recover.new.disk)
    (g.D.Disk.faults c.args.disk.now) (g.D.Disk.faults c.recover.new.disk) answer.0 answer.1 c.in-Err.fault _ c.of_slots.ensures
    answer.2 answer.3 answer.4 c.in-Err.ensures.cause

pub returns-in-Err-clause-spares : goal.returns-in-Err-clause-spares
returns-in-Err-clause-spares g c =
    spares_fault (g.D.Disk.told c.args.disk.now) (g.D.Disk.state c.args.disk.now) (g.D.Disk.state c.recover.new.disk)
    (g.D.Disk.faults c.args.disk.now) (g.D.Disk.faults c.recover.new.disk) c.in-Err.fault _ c.of_slots.ensures
    c.in-Err.ensures.untouched c.in-Err.ensures.cause
