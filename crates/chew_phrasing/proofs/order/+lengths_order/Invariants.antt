-- Each call has fewer syllables to go.
use Rattle.chew_phrasing.proofs.order.+lengths_order.Given as goal

abbrev pub decreases-lengths_order : goal.decreases-lengths_order
decreases-lengths_order l = l.left
