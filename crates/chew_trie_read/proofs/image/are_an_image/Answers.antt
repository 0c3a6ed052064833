-- By what was read.
use Rattle.std.proofs.Common.{arith}
use Rattle.chew_spec_image.specs.Fields.{AreBytes}
use Rattle.chew_spec_image.specs.Reading.{rows_in}
use Rattle.chew_spec_image.proofs.Unique.{is_read, place_none}
use Rattle.chew_trie_read.proofs.image.are_an_image.Goals as goal

pub returns : goal.returns
returns c =
    let are : AreBytes c.args.bytes.now = λ i. omega (arith, c.type_inv.bytes i) in
    (is_read c.args.bytes.now (rows_in c.args.bytes.now) are (place_none c.args.bytes.now c.requires)).image
