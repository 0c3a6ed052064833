-- The output of contexts and one more, and of rounds and one more.
use Rattle.std.proofs.Common.{◌≡◌, ℕ, suc, ◌+◌, List, [], ◌∷◌, ◌++◌, length, sym, ap, ◌∙◌, arith}
use Rattle.std.proofs.lemmas.List.{append-nil, append_assoc}
use Rattle.chew_spec_rounds.specs.Round.{Round}
use Rattle.chew_spec_program.specs.Output.{contexts_from, header, round_line, rounds_from}

-- from a number on
contexts-after : (number : ℕ) (contexts : List (List ℕ)) (lines : List ℕ)
    → contexts_from number (contexts ++ lines ∷ []) ≡ contexts_from number contexts ++ (header (number + length contexts) ++ lines)
contexts-after number [] lines =
    ap (λ rest. header number ++ rest) (append-nil lines) ∙ ap (λ n. header n ++ lines) (let e : number ≡ number + 0 = omega arith in e)
contexts-after number (first ∷ contexts) lines =
    let number_is : suc number + length contexts ≡ number + suc (length contexts) = omega arith in
    let more = header (number + suc (length contexts)) ++ lines in
    ap (λ rest. header number ++ (first ++ rest)) (contexts-after (suc number) contexts lines ∙ ap (λ n. contexts_from (suc number) contexts ++ (header n ++ lines)) number_is)
    ∙ ap (λ rest. header number ++ rest) (sym (append_assoc first (contexts_from (suc number) contexts) more))
    ∙ sym (append_assoc (header number) (first ++ contexts_from (suc number) contexts) more)

rounds-after : (number : ℕ) (rounds : List Round) (last : Round)
    → rounds_from number (rounds ++ last ∷ []) ≡ rounds_from number rounds ++ round_line (number + length rounds) last
rounds-after number [] last = append-nil (round_line number last) ∙ ap (λ n. round_line n last) (let e : number ≡ number + 0 = omega arith in e)
rounds-after number (first ∷ rounds) last =
    let number_is : suc number + length rounds ≡ number + suc (length rounds) = omega arith in
    ap (λ rest. round_line number first ++ rest) (rounds-after (suc number) rounds last ∙ ap (λ n. rounds_from (suc number) rounds ++ round_line n last) number_is)
    ∙ sym (append_assoc (round_line number first) (rounds_from (suc number) rounds) (round_line (number + suc (length rounds)) last))

-- one context more is written behind the others, under its number
pub contexts-more : (contexts : List (List ℕ)) (lines : List ℕ) → contexts_from 1 (contexts ++ lines ∷ []) ≡ contexts_from 1 contexts ++ (header (length contexts + 1) ++ lines)
contexts-more contexts lines =
    contexts-after 1 contexts lines ∙ ap (λ n. contexts_from 1 contexts ++ (header n ++ lines)) (let e : 1 + length contexts ≡ length contexts + 1 = omega arith in e)

-- and one round more
pub rounds-more : (rounds : List Round) (last : Round) → rounds_from 1 (rounds ++ last ∷ []) ≡ rounds_from 1 rounds ++ round_line (length rounds + 1) last
rounds-more rounds last =
    rounds-after 1 rounds last ∙ ap (λ n. rounds_from 1 rounds ++ round_line n last) (let e : 1 + length rounds ≡ length rounds + 1 = omega arith in e)
