-- The first of the rows that are left.
use Rattle.std.proofs.Common.{◌<◌, length, sym, ◌∙◌, arith}
use Rattle.chew_spec_syllable.specs.Row.{Row}
use Rattle.chew_trie_read.proofs.Among.{both_read, each_more}
use Rattle.chew_trie_read.proofs.iter.EachIterIterator.next.Goals as goal

pub returns-clause-steps : goal.returns-clause-steps
returns-clause-steps c =
    let keyed : Row = record { key = c.key_of-key.result; phrase = c.key_of-key.ensures.0; freq = c.key_of-key.ensures.1; time = c.key_of-key.ensures.2 } in
    let row : Row = record { key = c.row-row.ensures.0; phrase = c.row-row.result.phrase.now; freq = c.row-row.result.freq; time = c.row-row.result.time } in
    let here : c.self.inside.next < length c.self.inside.image = let test = c.if-self-rows.false in let count = c.rows.ensures.value in omega arith in
    sym c.self.view_is ∙ each_more c.self.inside.image c.self.inside.next _ here (both_read c.self.inside.image c.self.inside.next keyed row c.key_of-key.ensures.3 c.row-row.ensures.1)
