-- The generated script is read as its keys.
use Rattle.std.proofs.Common.{◌≡◌, ℕ, zero, suc, ◌+◌, ◌*◌, ◌<◌, ◌≤◌, true, false, not, ◌||◌, eqb, leb, List, [], ◌∷◌, ◌++◌, length, map, Ok, Some, refl, ap, ap₂, sym, ◌∙◌, arith}
use Rattle.std.specs.Prelude.{codes}
use Rattle.std.specs.Fmt.{digits}
use Rattle.std.specs.List.{flat_map, list_all, list_any}
use Rattle.std.proofs.lemmas.Bool.{and_from, cond-true, cond-false, le-leb, ne_eqb, not_from_true, not_from_false, or_from}
use Rattle.std.proofs.lemmas.Grind.{flat_map-append}
use Rattle.std.proofs.lemmas.List.{append-nil, append_assoc, length-append, map-append}
use Rattle.std.proofs.lemmas.List.Folds.{list_all-append}
use Rattle.chew_spec_text.specs.KeyStroke.{KeyStroke, Enter, is_key_stroke, is_printable, keys_in}
use Rattle.chew_spec_text.specs.Line.{with_line_feed}
use Rattle.chew_spec_text.specs.Lines.{each_line, go_on, is_line, lines_of, without_return}
use Rattle.chew_spec_text.specs.Script.{Script, Size, KeyLine, key_line, keys_count, keys_limit, script_limit, script_line, script_of, with_script_line}
use Rattle.chew_spec_text.proofs.KeysRead.{keys_read}
use Rattle.chew_spec_text.proofs.Limited.{accepted}
use Rattle.chew_spec_text.proofs.Lines.{lines_back, stays}
use Rattle.chew_spec_text.proofs.Script.{nothing_said, start, taken}
use Rattle.chew_spec_generator.specs.Generator.{draws_from, generated, generated_keys, line_count, line_of_draws, line_steps, lines_from, number_after, step_keys, step_text}
use Rattle.chew_spec_generator.proofs.Steps.{draws_counted, draws_joined, keys_few, keys_named, keys_print, none_below, texts_printable, texts_short}

-- a line of steps says the keys that they type
line_says : (draws : List ℕ) → script_line (line_of_draws draws) ≡ Ok (KeyLine 1 (flat_map step_keys draws))
unfolding digits
line_says draws =
    let read : keys_in (flat_map step_text draws) ≡ Some (flat_map step_keys draws) =
    ap keys_in (sym (keys_print draws)) ∙ keys_read (flat_map step_keys draws) (keys_named draws) in
    cond-false (eqb (length (line_of_draws draws)) 0 || false) _ _ (or_from _ _ (ne_eqb _ 0 (λ z. omega arith)) refl)
    ∙ (cond-false (not (list_all is_printable (line_of_draws draws))) _ _ (not_from_true (list_all is_printable (line_of_draws draws)) (texts_printable draws))
    ∙ ap (key_line (Some 1)) read)

-- it is one line
line_clean : (draws : List ℕ) → is_line (line_of_draws draws) ≡ true
line_clean draws = not_from_false _ (none_below 10 (line_of_draws draws) (omega arith) (texts_printable draws))

line_stays : (draws : List ℕ) → without_return (line_of_draws draws) ≡ line_of_draws draws
line_stays draws = stays (line_of_draws draws) (none_below 13 (line_of_draws draws) (omega arith) (texts_printable draws))

-- so are those of a script
lines_clean : (n number : ℕ) → list_all is_line (lines_from n number) ≡ true
unfolding lines_from
lines_clean zero number = refl
lines_clean (suc n) number = and_from _ _ (line_clean (draws_from line_steps number)) (lines_clean n (number_after line_steps number))

lines_stay : (n number : ℕ) → map without_return (lines_from n number) ≡ lines_from n number
unfolding lines_from
lines_stay zero number = refl
lines_stay (suc n) number =
    ap₂ (λ (line : List ℕ) (lines : List (List ℕ)). line ∷ lines) (line_stays (draws_from line_steps number)) (lines_stay n (number_after line_steps number))

-- the line of Enter
abbrev last_line : List ℕ
last_line = line_of_draws (6 ∷ [])

-- all lines of a script with so many lines of steps
abbrev all_lines : ℕ → ℕ → List (List ℕ)
all_lines n number = lines_from n number ++ last_line ∷ []

-- they are read as themselves
all_back : (n number : ℕ) → lines_of (flat_map with_line_feed (all_lines n number)) ≡ all_lines n number ++ [] ∷ []
all_back n number =
    lines_back (all_lines n number)
    (list_all-append is_line (lines_from n number) (last_line ∷ []) ∙ and_from _ _ (lines_clean n number) (and_from _ _ (line_clean (6 ∷ [])) refl))
    (map-append without_return (lines_from n number) (last_line ∷ [])
    ∙ ap₂ (λ (lines more : List (List ℕ)). lines ++ more) (lines_stay n number) (ap (λ (line : List ℕ). line ∷ []) (line_stays (6 ∷ []))))

-- a script whose first context has these keys, and no other
abbrev with_keys : List KeyStroke → Script
with_keys keys = record { contexts = keys ∷ []; rounds = 0 }

-- a line of steps adds its keys
line_taken : (had : List KeyStroke) (draws : List ℕ) → length had + length (flat_map step_keys draws) ≤ 65_536
    → taken (with_keys had) (line_of_draws draws) ≡ Ok (with_keys (had ++ flat_map step_keys draws))
line_taken had draws few =
    ap (with_script_line (with_keys had)) (line_says draws)
    ∙ cond-true (leb (keys_count (had ∷ []) + length (flat_map step_keys draws)) keys_limit) _ _ (le-leb _ _ (omega arith))

first_taken : (draws : List ℕ) → length (flat_map step_keys draws) ≤ 65_536
    → taken start (line_of_draws draws) ≡ Ok (with_keys (flat_map step_keys draws))
first_taken draws few =
    ap (with_script_line start) (line_says draws)
    ∙ cond-true (leb (0 + length (flat_map step_keys draws)) keys_limit) _ _ (le-leb _ _ (omega arith))

-- the keys of so many lines
abbrev line_keys : ℕ → ℕ → List KeyStroke
line_keys zero number = []
line_keys (suc n) number = flat_map step_keys (draws_from line_steps number) ++ line_keys n (number_after line_steps number)

-- a line has 80 at most
few_keys : (number : ℕ) → length (flat_map step_keys (draws_from line_steps number)) ≤ 80
few_keys number =
    let most = keys_few (draws_from line_steps number) in
    let count : length (draws_from line_steps number) ≡ 16 = draws_counted line_steps number in
    omega arith

-- lines of steps add their keys
lines_taken : (n number k : ℕ) (had : List KeyStroke) (more : List (List ℕ)) → length had + 80 * n ≤ 65_536
    → each_line taken k (with_keys had) (lines_from n number ++ more) ≡ each_line taken (k + n) (with_keys (had ++ line_keys n number)) more
unfolding lines_from
lines_taken zero number k had more few =
    let e : k ≡ k + 0 = omega arith in
    ap₂ (λ (m : ℕ) (keys : List KeyStroke). each_line taken m (with_keys keys) more) e (sym (append-nil had))
lines_taken (suc n) number k had more few =
    let keys : List KeyStroke = flat_map step_keys (draws_from line_steps number) in
    let next : ℕ = number_after line_steps number in
    let most : length keys ≤ 80 = few_keys number in
    let joined : length (had ++ keys) ≡ length had + length keys = length-append had keys in
    let e : suc k + n ≡ k + suc n = omega arith in
    ap (go_on k (λ script. each_line taken (suc k) script (lines_from n next ++ more))) (line_taken had (draws_from line_steps number) (omega arith))
    ∙ lines_taken n next (suc k) (had ++ keys) more (omega arith)
    ∙ ap₂ (λ (m : ℕ) (all : List KeyStroke). each_line taken m (with_keys all) more) e (append_assoc had keys (line_keys n next))

-- the last line adds Enter
enter_taken : (had : List KeyStroke) → length had + 1 ≤ 65_536 → taken (with_keys had) last_line ≡ Ok (with_keys (had ++ Enter ∷ []))
unfolding keys_in
enter_taken had few = line_taken had (6 ∷ []) few

-- and the empty line behind it nothing
end_taken : (k : ℕ) (had : List KeyStroke) → length had + 1 ≤ 65_536
    → each_line taken k (with_keys had) (last_line ∷ ([] ∷ [])) ≡ Ok (with_keys (had ++ Enter ∷ []))
end_taken k had few =
    ap (go_on k (λ script. each_line taken (suc k) script ([] ∷ []))) (enter_taken had few)
    ∙ ap (go_on (suc k) (λ script. each_line taken (suc (suc k)) script [])) (nothing_said (with_keys (had ++ Enter ∷ [])) [] refl)

-- how many keys lines have
keys_counted : (n number : ℕ) → length (line_keys n number) ≤ 80 * n
keys_counted zero number = omega arith
keys_counted (suc n) number =
    let keys : List KeyStroke = flat_map step_keys (draws_from line_steps number) in
    let next : ℕ = number_after line_steps number in
    let most : length keys ≤ 80 = few_keys number in
    let rest : length (line_keys n next) ≤ 80 * n = keys_counted n next in
    let joined : length (keys ++ line_keys n next) ≡ length keys + length (line_keys n next) = length-append keys (line_keys n next) in
    omega arith

-- all lines, one after another
all_taken : (n number : ℕ) → 80 * suc n + 1 ≤ 65_536
    → each_line taken 1 start (all_lines (suc n) number ++ [] ∷ []) ≡ Ok (with_keys (line_keys (suc n) number ++ Enter ∷ []))
unfolding lines_from draws_from
all_taken n number few =
    let keys : List KeyStroke = flat_map step_keys (draws_from line_steps number) in
    let next : ℕ = number_after line_steps number in
    let most : length keys ≤ 80 = few_keys number in
    let rest : length (line_keys n next) ≤ 80 * n = keys_counted n next in
    let joined : length (keys ++ line_keys n next) ≡ length keys + length (line_keys n next) = length-append keys (line_keys n next) in
    ap (λ (lines : List (List ℕ)). each_line taken 1 start (line_of_draws (draws_from line_steps number) ∷ lines)) (append_assoc (lines_from n next) (last_line ∷ []) ([] ∷ []))
    ∙ ap (go_on 1 (λ script. each_line taken 2 script (lines_from n next ++ (last_line ∷ ([] ∷ []))))) (first_taken (draws_from line_steps number) (omega arith))
    ∙ lines_taken n next 2 keys (last_line ∷ ([] ∷ [])) (omega arith)
    ∙ end_taken (2 + n) (keys ++ line_keys n next) (omega arith)

-- the keys of lines are those of their draws
keys_by_lines : (n number : ℕ) → line_keys n number ≡ flat_map step_keys (draws_from (n * line_steps) number)
unfolding draws_from
keys_by_lines zero number = refl
keys_by_lines (suc n) number =
    let next : ℕ = number_after line_steps number in
    let e : line_steps + n * line_steps ≡ suc n * line_steps = omega arith in
    ap (λ (keys : List KeyStroke). flat_map step_keys (draws_from line_steps number) ++ keys) (keys_by_lines n next)
    ∙ sym (flat_map-append step_keys (draws_from line_steps number) (draws_from (n * line_steps) next))
    ∙ ap (flat_map step_keys) (sym (draws_joined line_steps (n * line_steps) number))
    ∙ ap (λ (k : ℕ). flat_map step_keys (draws_from k number)) e

-- a line with its line feed has 83 bytes at most
lines_short : (n number : ℕ) → length (flat_map with_line_feed (lines_from n number)) ≤ 83 * n
unfolding lines_from
lines_short zero number = omega arith
lines_short (suc n) number =
    let text : List ℕ = flat_map step_text (draws_from line_steps number) in
    let more : List ℕ = flat_map with_line_feed (lines_from n (number_after line_steps number)) in
    let most : length text ≤ 5 * length (draws_from line_steps number) = texts_short (draws_from line_steps number) in
    let count : length (draws_from line_steps number) ≡ 16 = draws_counted line_steps number in
    let rest : length more ≤ 83 * n = lines_short n (number_after line_steps number) in
    let line : length (text ++ 10 ∷ []) ≡ length text + 1 = length-append text (10 ∷ []) in
    let joined : length ((text ++ 10 ∷ []) ++ more) ≡ length (text ++ 10 ∷ []) + length more = length-append (text ++ 10 ∷ []) more in
    omega arith

all_short : (n number : ℕ) → 83 * n + 6 ≤ script_limit → length (flat_map with_line_feed (all_lines n number)) ≤ script_limit
all_short n number few =
    let most : length (flat_map with_line_feed (lines_from n number)) ≤ 83 * n = lines_short n number in
    let parts : length (flat_map with_line_feed (all_lines n number)) ≡ length (flat_map with_line_feed (lines_from n number) ++ flat_map with_line_feed (last_line ∷ [])) =
    ap length (flat_map-append with_line_feed (lines_from n number) (last_line ∷ [])) in
    let joined : length (flat_map with_line_feed (lines_from n number) ++ flat_map with_line_feed (last_line ∷ [])) ≡ length (flat_map with_line_feed (lines_from n number)) + 6 =
    length-append (flat_map with_line_feed (lines_from n number)) (flat_map with_line_feed (last_line ∷ [])) in
    omega arith

-- a script of so many lines of steps
script_read : (n number : ℕ) → 80 * suc n + 1 ≤ 65_536 → 83 * suc n + 6 ≤ script_limit
    → script_of (flat_map with_line_feed (all_lines (suc n) number)) ≡ Ok (with_keys (flat_map step_keys (draws_from (suc n * line_steps) number) ++ Enter ∷ []))
unfolding script_of
script_read n number few short =
    accepted script_limit Size taken start (flat_map with_line_feed (all_lines (suc n) number)) (all_short (suc n) number short)
    ∙ ap (each_line taken 1 start) (all_back (suc n) number)
    ∙ all_taken n number few
    ∙ ap (λ (keys : List KeyStroke). Ok (with_keys (keys ++ Enter ∷ []))) (keys_by_lines (suc n) number)

-- the generated script
pub generated_read : (number : ℕ) → script_of (generated number) ≡ Ok (record { contexts = generated_keys number ∷ []; rounds = 0 })
unfolding generated generated_keys
generated_read number = script_read 255 number (omega arith) (omega arith)

pub generated_lines : (number : ℕ) → lines_of (generated number) ≡ lines_from line_count number ++ (codes "1:<E>" ∷ ([] ∷ []))
unfolding generated
generated_lines number = all_back line_count number ∙ append_assoc (lines_from line_count number) (codes "1:<E>" ∷ []) ([] ∷ [])

-- its keys are those of a script
pub generated_named : (number : ℕ) → list_all is_key_stroke (generated_keys number) ≡ true
unfolding generated_keys
generated_named number =
    list_all-append is_key_stroke (flat_map step_keys (draws_from (line_count * line_steps) number)) (Enter ∷ [])
    ∙ and_from _ _ (keys_named (draws_from (line_count * line_steps) number)) refl
