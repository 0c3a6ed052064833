-- By the lemmas on how rounds count.
use Rattle.std.proofs.Common.{arith}
use Rattle.chew_spec_session.proofs.LastRounds.{at-most}
use Rattle.chew_spec_session.proofs.Seqs.{count-from, not-spent, one-spent, other-number, room-left, spent-after-one, too-early}
use Rattle.chew_spec_session.proofs.laws.session.seqs_of_a_session.Goals as goal

pub returns-clause-counted : goal.returns-clause-counted
returns-clause-counted c = count-from

pub returns-clause-room : goal.returns-clause-room
returns-clause-room c = λ basis contexts asked seq ended session few room before later number.
    let most = at-most basis.start.dictionary asked ended.journal ended.rounds session.rounds in
    room-left seq ended.rounds before later number session.seqs (omega arith) room

pub returns-clause-spent : goal.returns-clause-spent
returns-clause-spent c = one-spent

pub returns-clause-other_number : goal.returns-clause-other_number
returns-clause-other_number c = other-number

pub returns-clause-goes_on : goal.returns-clause-goes_on
returns-clause-goes_on c = not-spent

pub returns-clause-too_early : goal.returns-clause-too_early
returns-clause-too_early c = too-early

pub returns-clause-after_one : goal.returns-clause-after_one
returns-clause-after_one c = spent-after-one
