-- A key that no node has has no rows.
use Rattle.chew_trie_read.proofs.Together.{no_rows}
use Rattle.chew_trie_read.proofs.rows.places_of.Goals as goal

pub returns-in-None-clause-value : goal.returns-in-None-clause-value
returns-in-None-clause-value c = no_rows c.args.image.now c.args.key.now c.rows-rows.ensures.each c.in-None.ensures.none
