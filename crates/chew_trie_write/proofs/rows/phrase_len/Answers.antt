-- A phrase has at most 44 bytes.
use Rattle.std.proofs.Common.{arith}
use Rattle.chew_spec_image.proofs.Bounds.{phrase_short}
use Rattle.chew_trie_write.proofs.rows.phrase_len.Goals as goal

pub overflow_cast-result : goal.overflow_cast-result
overflow_cast-result c = let s = phrase_short c.text.result.now c.text.ensures.valid in omega arith

pub returns-clause-short : goal.returns-clause-short
returns-clause-short c = phrase_short c.text.result.now c.text.ensures.valid
