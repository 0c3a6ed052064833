-- The sorted rows are the rows in another order.
use Rattle.chew_rows.proofs.Rising.{lent_rows, once-from_rising, permutation_lent}
use Rattle.std.proofs.Common.{refl}
use Rattle.chew_rows.proofs.apart.are_apart_once_sorted.Goals as goal

pub returns : goal.returns
returns c = λ t.
    once-from_rising (lent_rows c.args.rows.now) (lent_rows c.sort_unstable_by.new.self)
    (permutation_lent (lent_rows c.args.rows.now) c.args.rows.now c.sort_unstable_by.new.self refl c.sort_unstable_by.ensures.permutation) (c.rise.ensures t)
