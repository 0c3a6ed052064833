-- The sort is stable, and its order total.
use Rattle.std.proofs.Common.{rules}
use Rattle.chew_spec_syllable.specs.Row.{image_cmp}
use Rattle.chew_spec_dictionary.proofs.ImageOrder.{image_total}
use Rattle.chew_plain.proofs.Orders.{put_in_order}
use Rattle.chew_plain.proofs.order.sort_rows.Goals as goal

pub returns-clause-ok : goal.returns-clause-ok
returns-clause-ok c = put_in_order image_cmp image_total _ _ c.in_ok-sort_by.ensures.sorted c.in_ok-sort_by.ensures.stable (λ a r f k. search rules)
