-- The first byte is a '<', or a character, or there is none.
use Rattle.std.proofs.Common.{arith}
use Rattle.std.proofs.lemmas.List.{take_rest}
use Rattle.chew_script.proofs.KeyNames.{char_first, no_keys}
use Rattle.chew_script.proofs.keys.first_key.Goals as goal

pub returns-in-empty-clause-none : goal.returns-in-empty-clause-none
returns-in-empty-clause-none c = no_keys c.args.text.now (omega arith)

pub returns-else-byte-eq60-clause-some : goal.returns-else-byte-eq60-clause-some
returns-else-byte-eq60-clause-some c = rw take_rest (char_first c.args.text.now (omega arith) c.if-byte-eq60.false)
