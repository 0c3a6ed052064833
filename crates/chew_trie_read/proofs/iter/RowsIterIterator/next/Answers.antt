-- The first of the rows that are left.
use Rattle.std.proofs.Common.{map, sym, ap, ◌∙◌}
use Rattle.chew_spec_syllable.specs.Row.{Row}
use Rattle.chew_trie_read.specs.Rest.{lent}
use Rattle.chew_trie_read.proofs.Among.{rows_more}
use Rattle.chew_trie_read.proofs.iter.RowsIterIterator.next.Goals as goal

pub returns-clause-steps : goal.returns-clause-steps
returns-clause-steps c =
    let row : Row = record { key = c.row-row.ensures.0; phrase = c.row-row.result.phrase.now; freq = c.row-row.result.freq; time = c.row-row.result.time } in
    sym c.self.view_is ∙ ap (map lent) (rows_more c.self.inside.image c.self.inside.next c.self.inside.end row c.if-self.false c.self.invariant c.row-row.ensures.1)
