-- The header has a fault.
use Rattle.chew_trie_image.proofs.Root.{header_fails}
use Rattle.chew_trie_image.proofs.check.check_image.Goals as goal

pub returns-in-Err-clause-err : goal.returns-in-Err-clause-err
returns-in-Err-clause-err c = header_fails c.args.bytes.now c.in-Err.fault.place c.in-Err.ensures.err
