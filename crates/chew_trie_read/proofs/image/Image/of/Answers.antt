-- The header is there.
use Rattle.std.proofs.Common.{arith}
use Rattle.chew_spec_image.specs.Fields.{AreBytes}
use Rattle.chew_trie_read.proofs.Stored.{header_within}
use Rattle.chew_trie_read.proofs.image.Image.of.Goals as goal

pub counts_in-requires : goal.counts_in-requires
counts_in-requires c = let are : AreBytes c.args.bytes.now = λ i. omega (arith, c.type_inv.bytes i) in header_within c.args.bytes.now are c.requires
