-- The image reads as the rows.
use Rattle.chew_trie_write.proofs.ReadAgain.{no_fault, rows_again}
use Rattle.chew_trie_write.proofs.write.write_image.Goals as goal

pub returns-clause-rows : goal.returns-clause-rows
returns-clause-rows c = rows_again c.args.rows.now c.in_ok-bytes.bytes.items c.requires.map c.all_are_rows.ensures c.all_have_times.ensures c.requires.few c.in_ok-bytes.ensures

pub returns-clause-whole : goal.returns-clause-whole
returns-clause-whole c = no_fault c.args.rows.now c.in_ok-bytes.bytes.items c.requires.map c.all_are_rows.ensures c.all_have_times.ensures c.requires.few c.in_ok-bytes.ensures
