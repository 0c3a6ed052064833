-- The characters of the text are counted; a phrase has from 1 to 11.
use Rattle.std.proofs.Common.{rules, ◌≡◌, length, chars, arith}
use Rattle.std.proofs.lemmas.Str.{chars_from_encodes}
use Rattle.chew_syllable.proofs.PhraseFront.{phrase_some, phrase_few}
use Rattle.chew_syllable.proofs.phrase.Phrase.characters.Goals as goal

count_is : (c : goal.After-count) → c.count.result ≡ length (chars c.self.inside.text.bytes)
count_is c = search (rules, chars_from_encodes)

pub returns-clause-value : goal.returns-clause-value
returns-clause-value c = search (rules, chars_from_encodes)

pub returns-clause-some : goal.returns-clause-some
returns-clause-some c = let e = count_is c in let l = phrase_some c.self.inside.text.bytes c.self.invariant in omega arith

pub returns-clause-few : goal.returns-clause-few
returns-clause-few c = let e = count_is c in let l = phrase_few c.self.inside.text.bytes c.self.invariant in omega arith
