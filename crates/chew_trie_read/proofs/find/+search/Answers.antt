-- The codes before the middle one are lesser, and those behind it greater.
use Rattle.std.proofs.Common.{◌+◌, ◌-◌, ◌/◌, sym, ap, ◌∙◌, arith}
use Rattle.chew_spec_image.specs.Fields.{Node}
use Rattle.chew_trie_read.proofs.Finding.{searched_earlier, searched_later}
use Rattle.chew_trie_read.proofs.find.+search.Goals as goal

pub returns-in-Less-clause-none : goal.returns-in-Less-clause-none
returns-in-Less-clause-none t c =
    searched_later c.args.image.now c.args.low (c.args.low + (c.args.high - c.args.low) / 2) c.args.high c.args.code c.cmp.inside.code c.search.result (omega arith) (omega arith)
    (ap (λ (n : Node). n.code) c.cmp.view_is ∙ c.node.ensures.code) (sym c.in-Less.is ∙ c.cmp-2.ensures) c.search.ensures.none

pub returns-in-Greater-clause-none : goal.returns-in-Greater-clause-none
returns-in-Greater-clause-none t c =
    searched_earlier c.args.image.now c.args.low (c.args.low + (c.args.high - c.args.low) / 2) c.args.high c.args.code c.cmp.inside.code c.search-in-Greater.result (omega arith) (omega arith)
    (ap (λ (n : Node). n.code) c.cmp.view_is ∙ c.node.ensures.code) (sym c.in-Greater.is ∙ c.cmp-2.ensures) c.search-in-Greater.ensures.none
