-- The sort is stable, and its order total.
use Rattle.chew_spec_dictionary.specs.Look.{shown_hit_cmp}
use Rattle.std.proofs.Common.{rules}
use Rattle.chew_spec_dictionary.proofs.Rows.{shown_hit_total}
use Rattle.chew_plain.proofs.Orders.{put_in_order}
use Rattle.chew_plain.proofs.order.sort_hits.Goals as goal

pub returns-clause-ok : goal.returns-clause-ok
returns-clause-ok c = put_in_order shown_hit_cmp shown_hit_total _ _ c.in_ok-sort_by.ensures.sorted c.in_ok-sort_by.ensures.stable (λ a r f k. search rules)
