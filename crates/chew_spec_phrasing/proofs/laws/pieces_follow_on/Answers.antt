-- By the first piece and the others.
use Rattle.chew_spec_phrasing.proofs.Pieces.{length-pieces_from, lengths-pieces_from, starts-pieces_from}
use Rattle.chew_spec_phrasing.proofs.Usable.{GivesOwn-piece_at}
use Rattle.chew_spec_phrasing.proofs.laws.pieces_follow_on.Goals as goal

pub returns-clause-count : goal.returns-clause-count
returns-clause-count c = length-pieces_from

pub returns-clause-lengths : goal.returns-clause-lengths
returns-clause-lengths c = lengths-pieces_from

pub returns-clause-starts : goal.returns-clause-starts
returns-clause-starts c = starts-pieces_from

pub returns-clause-own : goal.returns-clause-own
returns-clause-own c = GivesOwn-piece_at
