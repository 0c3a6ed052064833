-- By what recovery found.
use Rattle.chew_slot_samples.proofs.Found.{found-is-recovered}
use Rattle.chew_slot_samples.proofs.saving.recovers_to.Goals as goal

pub returns-in-Ok-clause-recovers : goal.returns-in-Ok-clause-recovers
returns-in-Ok-clause-recovers g c told =
    let answer = c.in-Ok.ensures.answer in
    found-is-recovered c.args.learnt c.in-Ok.found.life c.in-Ok.found.map answer.0 answer.1 _ _ c.is_found.result (answer.2 told) (answer.3 told) answer.4.0 c.is_found.ensures
