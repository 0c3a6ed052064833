-- A phrase has at most 44 bytes.
use Rattle.std.proofs.Common.{arith}
use Rattle.chew_syllable.proofs.PhraseFront.{phrase_short}
use Rattle.chew_syllable.proofs.phrase.Phrase.of.Goals as goal

pub string_of-requires : goal.string_of-requires
string_of-requires c = (omega arith, phrase_short c.args.text.now c.requires)
