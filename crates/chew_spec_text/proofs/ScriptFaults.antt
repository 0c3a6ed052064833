-- No line of a script is refused for its size.
use Rattle.std.proofs.Common.{◌≡◌, ℕ, suc, ◌+◌, Bool, true, false, cond, not, ◌||◌, eqb, leb, ltb, List, length, Option, Some, None, Result, Ok, Err, refl, sym, ap, ◌∙◌}
use Rattle.std.specs.Prelude.{bytes_eq, codes, nat_eq}
use Rattle.std.specs.List.{after_first, before_first, list_all, starts_with}
use Rattle.std.proofs.lemmas.Bool.{both_ways, not-true, cond_both}
use Rattle.chew_spec_text.specs.KeyStroke.{KeyStroke, is_printable, keys_in}
use Rattle.chew_spec_text.specs.Script.{Script, ScriptLine, ScriptCause, Size, Byte, Form, Keys, Rounds, Nothing, Round, KeyLine, context_in, is_colon, is_key_line, key_line, keys_count, keys_limit, rounds_limit, with_script_line, script_line}
use Rattle.chew_spec_text.proofs.Script.{taken}
use Rattle.chew_spec_text.proofs.ScriptLines.{with_keys}

-- the size isn't told of a line
abbrev is_size : ScriptCause → Bool
is_size Size = true
is_size _ = false

-- the cause, if there is one, isn't the size
abbrev is_of_line : {A : Type 0} → Result A ScriptCause → Bool
is_of_line (Ok value) = true
is_of_line (Err cause) = not (is_size cause)

-- of a line of keys
key_line_said : (number : Option ℕ) (keys : Option (List KeyStroke)) → is_of_line (key_line number keys) ≡ true
key_line_said None keys = refl
key_line_said (Some number) None = refl
key_line_said (Some number) (Some keys) = refl

-- of what a line says
line_said : (line : List ℕ) → is_of_line (script_line line) ≡ true
line_said line =
    let said = key_line (context_in (before_first is_colon line)) (keys_in (after_first is_colon line)) in
    let by_key = cond (is_key_line line) said (Err Form) in
    let by_round = cond (bytes_eq line (codes "round")) (Ok Round) by_key in
    cond_both (eqb (length line) 0 || starts_with nat_eq line (codes "#")) (Ok Nothing) (cond (not (list_all is_printable line)) (Err Byte) by_round)
    (λ r. is_of_line r ≡ true) (λ _. refl)
    (λ _. cond_both (not (list_all is_printable line)) (Err Byte) by_round (λ r. is_of_line r ≡ true) (λ _. refl)
    (λ _. cond_both (bytes_eq line (codes "round")) (Ok Round) by_key (λ r. is_of_line r ≡ true) (λ _. refl)
    (λ _. cond_both (is_key_line line) said (Err Form) (λ r. is_of_line r ≡ true)
    (λ _. key_line_said (context_in (before_first is_colon line)) (keys_in (after_first is_colon line))) (λ _. refl))))

-- of what it makes of a script
script_said : (script : Script) (said : Result ScriptLine ScriptCause) → is_of_line said ≡ true → is_of_line (with_script_line script said) ≡ true
script_said script (Err cause) h = h
script_said script (Ok Nothing) h = refl
script_said script (Ok Round) h = cond_both (ltb script.rounds rounds_limit) (Ok (record script { rounds = suc script.rounds })) (Err Rounds) (λ r. is_of_line r ≡ true) (λ _. refl) (λ _. refl)
script_said script (Ok (KeyLine number keys)) h =
    cond_both (leb (keys_count script.contexts + length keys) keys_limit) (Ok (with_keys script number keys)) (Err Keys) (λ r. is_of_line r ≡ true) (λ _. refl) (λ _. refl)

-- no line is refused for the size
pub never_size : (script : Script) (line : List ℕ) (cause : ScriptCause) → taken script line ≡ Err cause → cause ≡ Size → ⊥
never_size script line cause h e =
    let no : not (is_size cause) ≡ true = sym (ap is_of_line h) ∙ script_said script (script_line line) (line_said line) in
    both_ways (is_size cause) (not-true _ no) (ap is_size e)
