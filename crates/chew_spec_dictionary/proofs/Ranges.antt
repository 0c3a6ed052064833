-- What a look-up of rows in range finds is in range.
use Rattle.std.proofs.Common.{◌≡◌, ℕ, ◌+◌, ◌≤◌, Bool, true, List, [], ◌∷◌, length, take, drop, refl, ap, sym, ◌∙◌, subst, nat_le, ◌==◌, ◌&&◌, Contains, chars, arith}
use Rattle.std.specs.List.{list_all}
use Rattle.std.proofs.lemmas.Bool.{and_from, and_parts, eq-eqb, eqb-true, le-leb}
use Rattle.std.proofs.lemmas.List.{length-drop, length-take}
use Rattle.chew_spec_syllable.specs.Key.{is_key}
use Rattle.chew_spec_syllable.specs.Phrase.{is_phrase}
use Rattle.chew_spec_syllable.specs.Row.{Row, greatest_freq, is_pair, is_row}
use Rattle.chew_spec_dictionary.specs.Call.{Hit, is_hit}
use Rattle.chew_spec_dictionary.specs.Look.{hits_of}
use Rattle.chew_spec_dictionary.proofs.Found.{each_of_all, one_later}
use Rattle.chew_spec_dictionary.proofs.Hits.{hit_is_row}

-- a test that each element of a list passes
all_from : {X : Type 0} (p : X → Bool) (xs : List X) → ((x : X) → Contains xs x → p x ≡ true) → list_all p xs ≡ true
all_from p [] each = refl
all_from p (x ∷ xs) each = and_from (p x) (list_all p xs) (each x (0, omega arith, refl)) (all_from p xs (λ y h. each y (one_later x y xs h)))

-- a hit of rows in range is in range
hit-in_range : (rows : List Row) (run : List ℕ) (hit : Hit) → list_all is_row rows ≡ true → length run ≤ 39 → Contains (hits_of rows run) hit → is_hit hit ≡ true
hit-in_range rows run hit all short h =
    let found = hit_is_row rows run hit h in
    let row : Row = found.1.0 in
    let among = found.1.1 in
    let valid : is_row row ≡ true = ap is_row (sym among.2) ∙ each_of_all is_row rows among.0 row all among.1 in
    let range = and_parts (is_pair row.key row.phrase) (nat_le row.freq greatest_freq) valid in
    let parts = and_parts (is_key row.key) (is_phrase row.phrase && (length (chars row.phrase) == length row.key)) range.0 in
    let phrase = and_parts (is_phrase row.phrase) (length (chars row.phrase) == length row.key) parts.1 in
    let long : length (chars row.phrase) ≡ hit.len =
    eqb-true (length (chars row.phrase)) (length row.key) phrase.1
    ∙ ap length found.1.2
    ∙ (let e : length (take hit.len (drop hit.start run)) ≡ hit.len = omega (arith, length-take hit.len (drop hit.start run), length-drop hit.start run, found.0.2) in e) in
    and_from _ _ (ap is_phrase (sym found.1.3) ∙ phrase.0)
    (and_from _ _ (eq-eqb (length (chars hit.phrase)) hit.len (ap (λ (p : List ℕ). length (chars p)) (sym found.1.3) ∙ long))
    (and_from _ _ (le-leb (hit.start + hit.len) 39 (omega (arith, found.0.2, short)))
    (and_from _ _ (le-leb 1 hit.len found.0.0)
    (and_from _ _ (le-leb hit.len 11 found.0.1) (ap (λ (f : ℕ). nat_le f greatest_freq) (sym found.1.4) ∙ range.1)))))

-- and so is each
pub hits-in_range : (rows : List Row) (run : List ℕ) → list_all is_row rows ≡ true → length run ≤ 39 → list_all is_hit (hits_of rows run) ≡ true
hits-in_range rows run all short = all_from is_hit (hits_of rows run) (λ hit h. hit-in_range rows run hit all short h)
