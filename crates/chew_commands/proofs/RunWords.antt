-- The words of a run, read one by one, are those of the definition.
use Rattle.std.specs.Prelude.{◌≡◌, ℕ, suc, ◌+◌, ◌≤◌, Bool, true, false, ◌&&◌, ◌||◌, List, [], ◌∷◌, ◌++◌, cond, length, count_by, nat_le, nat_lt, Option, Some, None, option_and_then}
use Rattle.std.proofs.Common.{refl, ap, ap₂, sym, ◌∙◌, arith}
use Rattle.std.proofs.lemmas.Bool.{and_right, lt-leb, ltb-false}
use Rattle.std.proofs.lemmas.List.{append-nil, append_assoc, length-append}
use Rattle.std.proofs.lemmas.List.Sums.{sum_by-cons}
use Rattle.std.specs.List.{list_all, list_any}
use Rattle.chew_spec_program.specs.Command.{Command, is_name, is_trace, places_from, run_at, run_of}
use Rattle.chew_commands.specs.Commands.{run_from, with_name}

-- more than four names are none of a run
too-many : (trace : Bool) (names : List ℕ) → 5 ≤ length names → run_at trace names ≡ None
too-many trace [] some = absurd (omega arith)
too-many trace (a ∷ []) some = absurd (omega arith)
too-many trace (a ∷ (b ∷ [])) some = absurd (omega arith)
too-many trace (a ∷ (b ∷ (c ∷ []))) some = absurd (omega arith)
too-many trace (a ∷ (b ∷ (c ∷ (d ∷ [])))) some = absurd (omega arith)
too-many trace (a ∷ (b ∷ (c ∷ (d ∷ (e ∷ rest))))) some = refl

-- what words make, by how many ask for the trace, whether all are in their form, whether one asks for the trace, and the
-- places of their names, behind others
abbrev made : ℕ → Bool → Bool → List ℕ → Bool → List ℕ → Option Command
made count formed asked places trace names = cond (nat_le (cond trace 1 0 + count) 1 && formed) (run_at (trace || asked) (names ++ places)) None

never : (b : Bool) (x : Option Command) → x ≡ None → None ≡ cond b x None
never true x e = sym e
never false x e = refl

none-of : (b : Bool) (x : Option Command) → b ≡ false → None ≡ cond b x None
none-of true x e = absurd cc
none-of false x e = refl

-- a word more in front: it asks for the trace, or is a name, or neither
front : (is_asking named : Bool) (count : ℕ) (formed asked : Bool) (places : List ℕ) (place : ℕ) (trace : Bool) (names : List ℕ)
    → cond is_asking (cond trace None (made count formed asked places true names))
    (cond named (option_and_then (λ more. made count formed asked places trace more) (with_name names place)) None)
    ≡ made (cond is_asking 1 0 + count) ((is_asking || named) && formed) (is_asking || asked) (cond is_asking places (place ∷ places)) trace names
front true named count formed asked places place true names =
    none-of _ _ (ap (λ b. b && formed) (lt-leb (1 + (1 + count)) 1 (omega arith)))
front true named count formed asked places place false names =
    ap (λ n. cond (nat_le n 1 && formed) (run_at true (names ++ places)) None) (let e : 1 + count ≡ 0 + (1 + count) = omega arith in e)
front false false count formed asked places place trace names =
    none-of _ _ (and_right (nat_le (cond trace 1 0 + (0 + count)) 1) false refl)
front false true count formed asked places place trace names = by (nat_lt (length names) 4) refl
  where
    by : (b : Bool) → nat_lt (length names) 4 ≡ b
        → option_and_then (λ more. made count formed asked places trace more) (cond b (Some (names ++ place ∷ [])) None)
        ≡ made (0 + count) formed asked (place ∷ places) trace names
    by true e =
        ap₂ (λ n l. cond (nat_le (cond trace 1 0 + n) 1 && formed) (run_at (trace || asked) l) None)
        (let e : count ≡ 0 + count = omega arith in e) (append_assoc names (place ∷ []) places)
    by false e =
        never _ _ (too-many (trace || asked) (names ++ place ∷ places) (omega (arith, ltb-false (length names) 4 e, length-append names (place ∷ places))))

-- what the words from here on make
abbrev whole : List (List ℕ) → ℕ → Bool → List ℕ → Option Command
whole words place trace names =
    made (count_by is_trace words) (list_all (λ word. is_trace word || is_name word) words) (list_any is_trace words) (places_from place words) trace names

more : (f g : Bool → List ℕ → Option Command) → ((trace : Bool) (names : List ℕ) → f trace names ≡ g trace names) → (asks named trace : Bool) (names : List ℕ) (o : Option (List ℕ))
    → cond asks (cond trace None (f true names)) (cond named (option_and_then (λ l. f trace l) o) None)
    ≡ cond asks (cond trace None (g true names)) (cond named (option_and_then (λ l. g trace l) o) None)
more f g same true named true names o = refl
more f g same true named false names o = same true names
more f g same false false trace names o = refl
more f g same false true trace names None = refl
more f g same false true trace names (Some l) = same trace l

read-on : (words : List (List ℕ)) (place : ℕ) (trace : Bool) (names : List ℕ) → run_from words place trace names ≡ whole words place trace names
read-on [] place true names = ap (run_at true) (sym (append-nil names))
read-on [] place false names = ap (run_at false) (sym (append-nil names))
read-on (word ∷ words) place trace names =
    more (run_from words (suc place)) (whole words (suc place)) (read-on words (suc place)) (is_trace word) (is_name word) trace names (with_name names place)
    ∙ front (is_trace word) (is_name word) (count_by is_trace words) (list_all (λ word. is_trace word || is_name word) words) (list_any is_trace words)
    (places_from (suc place) words) place trace names
    ∙ ap (λ n. made n ((is_trace word || is_name word) && list_all (λ word. is_trace word || is_name word) words) (is_trace word || list_any is_trace words)
    (cond (is_trace word) (places_from (suc place) words) (place ∷ places_from (suc place) words)) trace names)
    (sym (sum_by-cons (λ word. cond (is_trace word) 1 0) word words))

pub run_words_read : (words : List (List ℕ)) → run_from words 1 false [] ≡ run_of words
run_words_read words =
    read-on words 1 false []
    ∙ ap (λ n. cond (nat_le n 1 && list_all (λ word. is_trace word || is_name word) words) (run_at (list_any is_trace words) (places_from 1 words)) None)
    (let e : 0 + count_by is_trace words ≡ count_by is_trace words = omega arith in e)
