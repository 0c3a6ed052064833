-- What the lines of a script make of it.
use Rattle.std.proofs.Common.{◌≡◌, ℕ, ◌+◌, max, true, false, cond, not, ◌&&◌, ◌||◌, eqb, leb, List, [], ◌∷◌, ◌++◌, length, get_or, Option, Some, None, Result, Ok, Err, refl, sym, ap, ◌∙◌, arith}
use Rattle.std.specs.Prelude.{bytes_eq, codes, decimal, nat_eq}
use Rattle.std.specs.List.{after_first, before_first, count_by, flat_map, fold, list_all, range_with_len, starts_with}
use Rattle.std.proofs.lemmas.Bool.{and_from, not-false, cond_both, cond-true}
use Rattle.std.proofs.lemmas.List.{append-nil, append_assoc}
use Rattle.chew_spec_text.specs.KeyStroke.{KeyStroke, is_printable, keys_in}
use Rattle.chew_spec_text.specs.Lines.{each_line, lines_of}
use Rattle.chew_spec_text.specs.Script.{Script, ScriptCause, Size, Byte, Form, Nothing, Round, context_in, contexts_limit, is_colon, is_key_line, key_line, with_script_line, script_limit, script_line, script_of}
use Rattle.chew_spec_text.specs.Statement.{context_of, is_round, keys_for, says_something}
use Rattle.chew_spec_text.proofs.EachLine.{keeps, folded}
use Rattle.chew_spec_text.proofs.Found.{holds_in, found_among}
use Rattle.chew_spec_text.proofs.KeyRange.{all_after, in_range, keys_range}
use Rattle.chew_spec_text.proofs.Limited.{of_lines}
use Rattle.chew_spec_text.proofs.ScriptLines.{Bounded, is_said_in_range, line_bounded, line_contexts, line_keys, line_rounds}

-- the number of a context is 1 to 16
context_range : (line : List ℕ) → holds_in (λ n. leb 1 n && leb n 16) (context_in line) ≡ true
context_range line = found_among (λ number. bytes_eq (decimal number) line) (λ n. leb 1 n && leb n 16) (range_with_len 1 contexts_limit) refl

-- a number and keys that are in range
key_line_range : (number : Option ℕ) (keys : Option (List KeyStroke)) → holds_in (λ n. leb 1 n && leb n 16) number ≡ true → in_range keys ≡ true
    → is_said_in_range (key_line number keys) ≡ true
key_line_range None keys h k = refl
key_line_range (Some number) None h k = refl
key_line_range (Some number) (Some keys) h k = and_from _ _ h k

-- what a line says is in range
said_range : (line : List ℕ) → is_said_in_range (script_line line) ≡ true
said_range line =
    let behind_colon = after_first is_colon line in
    let said = key_line (context_in (before_first is_colon line)) (keys_in behind_colon) in
    let by_key = cond (is_key_line line) said (Err Form) in
    let by_round = cond (bytes_eq line (codes "round")) (Ok Round) by_key in
    cond_both (eqb (length line) 0 || starts_with nat_eq line (codes "#")) (Ok Nothing) (cond (not (list_all is_printable line)) (Err Byte) by_round)
    (λ r. is_said_in_range r ≡ true) (λ _. refl)
    (λ _. cond_both (not (list_all is_printable line)) (Err Byte) by_round (λ r. is_said_in_range r ≡ true) (λ _. refl)
    (λ clean. cond_both (bytes_eq line (codes "round")) (Ok Round) by_key (λ r. is_said_in_range r ≡ true) (λ _. refl)
    (λ _. cond_both (is_key_line line) said (Err Form) (λ r. is_said_in_range r ≡ true)
    (λ _. key_line_range (context_in (before_first is_colon line)) (keys_in behind_colon) (context_range _)
    (keys_range behind_colon (all_after is_printable is_colon line (not-false _ clean))))
    (λ _. refl))))

-- what one line more makes of a script
abbrev pub taken : Script → List ℕ → Result Script ScriptCause
taken script line = with_script_line script (script_line line)

-- lists joined one after another
fold_joined : {A B : Type 0} (f : A → List B) (had : List B) (xs : List A) → fold (λ all x. all ++ f x) had xs ≡ had ++ flat_map f xs
fold_joined f had [] = sym (append-nil had)
fold_joined f had (x ∷ xs) = fold_joined f (had ++ f x) xs ∙ append_assoc had (f x) (flat_map f xs)

-- the script before the first line
abbrev pub start : Script
start = record { contexts = []; rounds = 0 }

-- a script is what its lines made
pub made_by_lines : (text : List ℕ) (script : Script) → script_of text ≡ Ok script → each_line taken 1 start (lines_of text) ≡ Ok script
unfolding script_of
made_by_lines text script h = of_lines (leb (length text) script_limit) Size taken start script text h

-- a script is never too large
pub bounded : (n : ℕ) (script : Script) (lines : List (List ℕ)) → each_line taken n start lines ≡ Ok script → Bounded script
bounded n script lines h =
    keeps Bounded taken (λ u t line e. line_bounded u t (script_line line) (said_range line) e) n start script lines h
    (record { contexts = omega arith; keys = omega arith; rounds = omega arith; strokes = refl })

-- its keys for a context are those of its lines
pub keys_by_lines : (n place : ℕ) (script : Script) (lines : List (List ℕ)) → each_line taken n start lines ≡ Ok script
    → get_or script.contexts place [] ≡ flat_map (keys_for (place + 1)) lines
keys_by_lines n place script lines h =
    folded (λ (s : Script). get_or s.contexts place []) (λ keys line. keys ++ keys_for (place + 1) line) taken
    (λ u t line e. line_keys place u t (script_line line) (said_range line) e) n start script lines h
    ∙ fold_joined (keys_for (place + 1)) [] lines

-- its contexts are as many as the greatest number of a line
pub contexts_by_lines : (n : ℕ) (script : Script) (lines : List (List ℕ)) → each_line taken n start lines ≡ Ok script
    → length script.contexts ≡ fold (λ greatest line. max greatest (context_of line)) 0 lines
contexts_by_lines n script lines h =
    folded (λ (s : Script). length s.contexts) (λ greatest line. max greatest (context_of line)) taken
    (λ u t line e. line_contexts u t (script_line line) (said_range line) e) n start script lines h

-- its rounds are as many as the lines that ask for one
pub rounds_by_lines : (n : ℕ) (script : Script) (lines : List (List ℕ)) → each_line taken n start lines ≡ Ok script
    → script.rounds ≡ count_by is_round lines
rounds_by_lines n script lines h =
    folded (λ (s : Script). s.rounds) (λ count line. count + cond (is_round line) 1 0) taken
    (λ u t line e. line_rounds u t (script_line line) e) n start script lines h

-- a line that is empty or a comment changes nothing
pub nothing_said : (script : Script) (line : List ℕ) → says_something line ≡ false → taken script line ≡ Ok script
nothing_said script line h = ap (with_script_line script) (cond-true _ (Ok Nothing) _ (not-false _ h))
