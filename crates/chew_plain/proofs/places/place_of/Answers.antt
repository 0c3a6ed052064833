-- The search answers by the order of pairs, in which a map's rows are sorted.
use Rattle.std.proofs.Common.{rules}
use Rattle.chew_plain.proofs.Standing.{stands_where_found, lacks_where_not_found}
use Rattle.chew_plain.proofs.places.place_of.Goals as goal

pub returns-clause-ok : goal.returns-clause-ok
returns-clause-ok c = stands_where_found c.args.rows.now c.args.key.now c.args.phrase.now c.binary_search_by.result c.binary_search_by.ensures.position c.binary_search_by.ensures.bound (λ a r q k. search rules)

pub returns-clause-err : goal.returns-clause-err
returns-clause-err c = lacks_where_not_found c.args.rows.now c.args.key.now c.args.phrase.now c.binary_search_by.result c.binary_search_by.ensures.position c.binary_search_by.ensures.bound (λ a r q k. search rules) c.requires.map
