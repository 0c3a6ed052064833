-- A line of printed keys is read as its keys.
use Rattle.std.proofs.Common.{◌≡◌, ℕ, ◌+◌, ◌*◌, ◌<◌, ◌≤◌, Bool, true, false, not, ◌&&◌, ◌||◌, eqb, leb, List, [], ◌∷◌, ◌++◌, length, map, Ok, Err, Option, Some, None, refl, ap, ◌∙◌, arith}
use Rattle.std.specs.Prelude.{codes}
use Rattle.std.specs.Fmt.{digits}
use Rattle.std.specs.List.{flat_map, list_all, list_any}
use Rattle.std.proofs.lemmas.Bool.{and_parts, and_from, or_from, ne_eqb, leb-true, le-leb, lt-leb, not_from_true, cond-true, cond-false, cond_both}
use Rattle.std.proofs.lemmas.List.{append_assoc, length-append}
use Rattle.std.proofs.lemmas.List.Folds.{list_all-append}
use Rattle.chew_spec_syllable.proofs.Marks.{Each}
use Rattle.chew_spec_text.specs.KeyStroke.{KeyStroke, Char, Enter, Backspace, Delete, Left, Right, Home, End, Up, Down, PageUp, PageDown, Tab, Esc, Add, Forget, Hide, is_key_stroke, is_printable, key_text, keys_in}
use Rattle.chew_spec_text.specs.Lines.{each_line, go_on, lines_of, without_return}
use Rattle.chew_spec_text.specs.Script.{Size, Key, Keys, KeyLine, keys_limit, key_line, script_limit, script_line, script_of, with_script_line}
use Rattle.chew_spec_text.proofs.KeyText.{before, begins}
use Rattle.chew_spec_text.proofs.KeysRead.{counted, keys_read, read_key}
use Rattle.chew_spec_text.proofs.Limited.{accepted}
use Rattle.chew_spec_text.proofs.Lines.{is_feed, stays}
use Rattle.chew_spec_text.proofs.Script.{taken, start}
use Rattle.chew_spec_text.proofs.Splits.{last_part}

-- the text of a key is printable and short
abbrev is_short : KeyStroke → Bool
is_short key = list_all is_printable (key_text key) && leb (length (key_text key)) 4

-- each key that adds a phrase
adds_short : Each (λ n. is_short (Add (2 + n)) ≡ true) 0 8
unfolding digits
adds_short = (refl, (refl, (refl, (refl, (refl, (refl, (refl, (refl, tt))))))))

-- each key that takes one away
forgets_short : Each (λ n. is_short (Forget (1 + n)) ≡ true) 0 9
unfolding digits
forgets_short = (refl, (refl, (refl, (refl, (refl, (refl, (refl, (refl, (refl, tt)))))))))

-- each key that hides one
hides_short : Each (λ n. is_short (Hide (2 + n)) ≡ true) 0 8
unfolding digits
hides_short = (refl, (refl, (refl, (refl, (refl, (refl, (refl, (refl, tt))))))))

-- each key of a script
key_short : (key : KeyStroke) → is_key_stroke key ≡ true → is_short key ≡ true
key_short (Char byte) h =
    cond_both (begins byte) (codes "<lt>") (byte ∷ []) (λ text. (list_all is_printable text && leb (length text) 4) ≡ true)
    (λ _. refl) (λ _. and_from _ _ (and_from _ _ h refl) refl)
key_short Enter h = refl
key_short Backspace h = refl
key_short Delete h = refl
key_short Left h = refl
key_short Right h = refl
key_short Home h = refl
key_short End h = refl
key_short Up h = refl
key_short Down h = refl
key_short PageUp h = refl
key_short PageDown h = refl
key_short Tab h = refl
key_short Esc h = refl
key_short (Add cells) h =
    let both = and_parts _ _ h in
    let low : 2 ≤ cells = leb-true _ _ both.0 in let high : cells ≤ 9 = leb-true _ _ both.1 in
    counted (λ n. is_short (Add n) ≡ true) 2 8 cells adds_short low (omega arith)
key_short (Forget cells) h =
    let both = and_parts _ _ h in
    let low : 1 ≤ cells = leb-true _ _ both.0 in let high : cells ≤ 9 = leb-true _ _ both.1 in
    counted (λ n. is_short (Forget n) ≡ true) 1 9 cells forgets_short low (omega arith)
key_short (Hide cells) h =
    let both = and_parts _ _ h in
    let low : 2 ≤ cells = leb-true _ _ both.0 in let high : cells ≤ 9 = leb-true _ _ both.1 in
    counted (λ n. is_short (Hide n) ≡ true) 2 8 cells hides_short low (omega arith)

-- keys are printed in printable characters
keys_printable : (keys : List KeyStroke) → list_all is_key_stroke keys ≡ true → list_all is_printable (flat_map key_text keys) ≡ true
keys_printable [] h = refl
keys_printable (key ∷ keys) h =
    let both = and_parts _ _ h in
    list_all-append is_printable (key_text key) (flat_map key_text keys)
    ∙ and_from _ _ (and_parts _ _ (key_short key both.0)).0 (keys_printable keys both.1)

-- four for each at most
keys_short : (keys : List KeyStroke) → list_all is_key_stroke keys ≡ true → length (flat_map key_text keys) ≤ 4 * length keys
keys_short [] h = omega arith
keys_short (key ∷ keys) h =
    let both = and_parts _ _ h in
    let first : length (key_text key) ≤ 4 = leb-true (length (key_text key)) 4 (and_parts (list_all is_printable (key_text key)) (leb (length (key_text key)) 4) (key_short key both.0)).1 in
    let rest : length (flat_map key_text keys) ≤ 4 * length keys = keys_short keys both.1 in
    let e : length (key_text key ++ flat_map key_text keys) ≡ length (key_text key) + length (flat_map key_text keys) = length-append (key_text key) (flat_map key_text keys) in
    omega arith

-- none of which is a control character
none_below : (b : ℕ) (bytes : List ℕ) → b < 32 → list_all is_printable bytes ≡ true → list_any (λ byte. eqb byte b) bytes ≡ false
none_below b [] low h = refl
none_below b (x ∷ bytes) low h =
    let both = and_parts _ _ h in
    let high : 32 ≤ x = leb-true _ _ (and_parts _ _ both.0).0 in
    or_from _ _ (ne_eqb x b (λ e. omega arith)) (none_below b bytes low both.1)

-- a text of printable characters is one line
one_line : (text : List ℕ) → list_all is_printable text ≡ true → lines_of text ≡ text ∷ []
one_line text h =
    ap (map without_return) (last_part is_feed text (none_below 10 text (omega arith) h))
    ∙ ap (λ line. line ∷ []) (stays text (none_below 13 text (omega arith) h))

-- the line of the first context with these characters
abbrev first_line : List ℕ → List ℕ
first_line text = codes "1:" ++ text

-- says what keys they are, or that a '<' begins no name
line_says : (text : List ℕ) (keys : Option (List KeyStroke)) → list_all is_printable text ≡ true → keys_in text ≡ keys → script_line (first_line text) ≡ key_line (Some 1) keys
unfolding digits
line_says text keys h e =
    cond-false (eqb (length (first_line text)) 0 || false) _ _ (or_from _ _ (ne_eqb _ 0 (λ z. omega arith)) refl)
    ∙ (cond-false (not (list_all is_printable (first_line text))) _ _ (not_from_true (list_all is_printable (first_line text)) h) ∙ ap (key_line (Some 1)) e)

-- and is a script of one line
line_taken : (text : List ℕ) (keys : Option (List KeyStroke)) → list_all is_printable text ≡ true → length text ≤ 300_000 → keys_in text ≡ keys
    → script_of (first_line text) ≡ go_on 1 (λ next. each_line taken 2 next []) (with_script_line start (key_line (Some 1) keys))
unfolding script_of
line_taken text keys h few e =
    let short : length (first_line text) ≤ script_limit = omega arith in
    accepted script_limit Size taken start (first_line text) short
    ∙ (ap (each_line taken 1 start) (one_line (first_line text) h)
    ∙ ap (λ said. go_on 1 (λ next. each_line taken 2 next []) (with_script_line start said)) (line_says text keys h e))

-- the text of printed keys for the first context
abbrev text_for : List KeyStroke → List ℕ
text_for keys = first_line (flat_map key_text keys)

-- what the line of printed keys makes
keys_taken : (keys : List KeyStroke) → list_all is_key_stroke keys ≡ true → length keys ≤ 65_537
    → script_of (text_for keys) ≡ go_on 1 (λ next. each_line taken 2 next []) (with_script_line start (Ok (KeyLine 1 keys)))
keys_taken keys h few =
    let bytes = keys_short keys h in
    line_taken (flat_map key_text keys) (Some keys) (keys_printable keys h) (omega arith) (keys_read keys h)

-- it gives the keys, where there are not too many
pub keys_given : (keys : List KeyStroke) → list_all is_key_stroke keys ≡ true → length keys ≤ 65_536
    → script_of (text_for keys) ≡ Ok (record { contexts = keys ∷ []; rounds = 0 })
keys_given keys h few =
    keys_taken keys h (omega arith)
    ∙ ap (go_on 1 (λ next. each_line taken 2 next [])) (cond-true (leb (0 + length keys) keys_limit) _ _ (le-leb _ _ (omega arith)))

-- the 65,537th is refused
pub key_too_many : (keys : List KeyStroke) → list_all is_key_stroke keys ≡ true → length keys ≡ 65_537
    → script_of (text_for keys) ≡ Err (record { line = 1; cause = Keys })
key_too_many keys h count =
    keys_taken keys h (omega arith)
    ∙ ap (go_on 1 (λ next. each_line taken 2 next [])) (cond-false (leb (0 + length keys) keys_limit) _ _ (lt-leb _ _ (omega arith)))

-- a '<' behind keys begins no name
keys_then_open : (keys : List KeyStroke) → list_all is_key_stroke keys ≡ true → keys_in (flat_map key_text keys ++ codes "<") ≡ None
unfolding keys_in
keys_then_open [] h = refl
keys_then_open (key ∷ keys) h =
    let both = and_parts _ _ h in
    ap keys_in (append_assoc (key_text key) (flat_map key_text keys) (codes "<"))
    ∙ (read_key key both.0 (flat_map key_text keys ++ codes "<") ∙ ap (before key) (keys_then_open keys both.1))

-- which is told first
pub key_unnamed : (keys : List KeyStroke) → list_all is_key_stroke keys ≡ true → length keys ≤ 65_537
    → script_of (first_line (flat_map key_text keys ++ codes "<")) ≡ Err (record { line = 1; cause = Key })
key_unnamed keys h few =
    let bytes = keys_short keys h in
    let text = flat_map key_text keys in
    let all : length (text ++ codes "<") ≡ length text + 1 = length-append text (codes "<") in
    line_taken (text ++ codes "<") None
    (list_all-append is_printable text (codes "<") ∙ and_from _ _ (keys_printable keys h) refl) (omega arith) (keys_then_open keys h)
