-- The first character comes off.
use Rattle.std.proofs.Common.{◌++◌, length, encode_utf8, sym, ap, ◌∙◌, arith}
use Rattle.chew_syllable.proofs.PhraseFront.{more_allowed, none_allowed, nothing_allowed}
use Rattle.chew_syllable.proofs.phrase.after_allowed.Goals as goal

pub returns-then-is_allowed-clause-some : goal.returns-then-is_allowed-clause-some
returns-then-is_allowed-clause-some c = λ n.
    let shape = sym c.chars-characters.ensures.rest ∙ (c.in_ok-first.ensures.steps.0 ∙ ap (λ xs. encode_utf8 c.in_ok-first.first ++ xs) (sym c.as_str.ensures)) in
    more_allowed c.args.text.now c.as_str.result.now c.in_ok-first.first n c.utf8.text shape (sym c.is_allowed.ensures ∙ c.if-is_allowed.true)

pub returns-else-is_allowed-clause-none : goal.returns-else-is_allowed-clause-none
returns-else-is_allowed-clause-none c = λ n.
    none_allowed c.args.text.now _ c.in_ok-first.first n c.utf8.text (sym c.chars-characters.ensures.rest ∙ c.in_ok-first.ensures.steps.0) (sym c.is_allowed.ensures ∙ c.if-is_allowed.false)

pub returns-in_err-first-clause-none : goal.returns-in_err-first-clause-none
returns-in_err-first-clause-none c =
    let same = ap length c.chars-characters.ensures.rest in
    let none = c.in_err-first.ensures.steps.0.0 in
    rw c.from_residual.ensures (λ n. nothing_allowed c.args.text.now n (omega arith))
