-- There are no more pieces than syllables.
use Rattle.std.proofs.Common.{arith}
use Rattle.chew_phrasing.proofs.Totals.{length-le-sum}
use Rattle.chew_phrasing.proofs.scoring.score.Goals as goal

pub gain_of-requires-clause-few : goal.gain_of-requires-clause-few
gain_of-requires-clause-few c = let l = length-le-sum c.args.lengths.now c.requires.ranges in omega arith

pub loss_of-requires : goal.loss_of-requires
loss_of-requires c = let l = length-le-sum c.args.lengths.now c.requires.ranges in omega arith
