-- A phrase has from 1 to 11 characters; a text of so many is one where all of them are allowed.
use Rattle.std.proofs.Common.{◌&&◌, ◌==◌, List, ℕ, chars, length, sym, ap, ◌∙◌, arith}
use Rattle.std.specs.List.{list_all}
use Rattle.chew_spec_syllable.specs.Phrase.{is_allowed}
use Rattle.chew_trie_image.proofs.Phrases.{no_such, no_text, of_allowed}
use Rattle.chew_trie_image.proofs.phrase.is_phrase_of.Goals as goal

pub returns-then-len-eq0 : goal.returns-then-len-eq0
returns-then-len-eq0 c = let none = c.if-len-eq0.true in sym (no_such c.args.bytes.now c.args.len (λ some few. omega arith))

pub returns-then-len : goal.returns-then-len
returns-then-len c = let many = c.if-len.true in sym (no_such c.args.bytes.now c.args.len (λ some few. omega arith))

pub returns-in-Ok : goal.returns-in-Ok
returns-in-Ok c =
    c.has_allowed.ensures
    ∙ (ap (λ (text : List ℕ). list_all is_allowed (chars text) && (length (chars text) == c.args.len)) c.in-Ok.ensures.cases.0
    ∙ of_allowed c.args.bytes.now c.args.len c.in-Ok.ensures.cases.1 (let some = c.if-len-eq0.false in omega arith) c.if-len.false)

pub returns-in-Err : goal.returns-in-Err
returns-in-Err c = sym (no_text c.args.bytes.now c.args.len c.in-Err.ensures.cases.0)
