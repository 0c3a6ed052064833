-- Recovery reads what the crash left.
use Rattle.chew_run_samples.proofs.CrashFinds.{found_left}
use Rattle.chew_run_samples.proofs.maps.found_after.Goals as goal

pub returns-in-Ok : goal.returns-in-Ok
returns-in-Ok c =
    let answer = c.recover.ensures.answer in
    found_left c.args.pick c.args.disk.now c.in-Ok.image answer.0 answer.1 c.recover.result c.in-Ok.ensures.zero c.in-Ok.ensures.one c.in-Ok.ensures.new
    answer.2 answer.3 answer.4
