-- The mark is short.
use Rattle.std.proofs.Common.{arith}
use Rattle.chew_syllable.proofs.Marks.{initial_within}
use Rattle.chew_syllable.proofs.text.push_initial.Goals as goal

pub push_mark-requires-clause-room : goal.push_mark-requires-clause-room
push_mark-requires-clause-room c = omega (arith, initial_within c.args.number c.requires.known)

pub returns-clause-count : goal.returns-clause-count
returns-clause-count c = omega (arith, initial_within c.args.number c.requires.known)
