-- What steps type: their texts are those of their keys, which a script can name.
use Rattle.std.proofs.Common.{◌≡◌, ℕ, zero, suc, ◌+◌, ◌*◌, ◌<◌, ◌≤◌, true, false, eqb, List, [], ◌∷◌, ◌++◌, length, refl, ap, ap₂, sym, ◌∙◌, arith, lit≤}
use Rattle.std.specs.Prelude.{codes, nat_lt, unwrap_or, ◌==◌}
use Rattle.std.specs.List.{flat_map, list_all, list_any}
use Rattle.std.proofs.lemmas.Bool.{and_parts, and_from, cond_both, leb-true, ne_eqb, or_from}
use Rattle.std.proofs.lemmas.Grind.{flat_map-append}
use Rattle.std.proofs.lemmas.List.{length-append}
use Rattle.std.proofs.lemmas.List.Folds.{list_all-append}
use Rattle.chew_spec_text.specs.KeyStroke.{is_key_stroke, is_printable, key_text, keys_in}
use Rattle.chew_spec_generator.specs.Generator.{draw_of, draws_from, next_number, number_after, step_keys, step_text}

-- a text that keys of a script print, five at most
record IsStep (text : List ℕ) : Type 0 where
  same : flat_map key_text (unwrap_or (keys_in text) []) ≡ text
  strokes : list_all is_key_stroke (unwrap_or (keys_in text) []) ≡ true
  printable : list_all is_printable text ≡ true
  short : length text ≤ 5
  few : length (unwrap_or (keys_in text) []) ≤ 5

-- each step has such a text
each_step : (draw : ℕ) → IsStep (step_text draw)
unfolding keys_in
each_step draw =
    cond_both (nat_lt draw 3) _ _ IsStep (λ _. record { same = refl; strokes = refl; printable = refl; short = lit≤ tt; few = lit≤ tt })
    (λ _. cond_both (nat_lt draw 5) _ _ IsStep (λ _. record { same = refl; strokes = refl; printable = refl; short = lit≤ tt; few = lit≤ tt })
    (λ _. cond_both (draw == 5) _ _ IsStep (λ _. record { same = refl; strokes = refl; printable = refl; short = lit≤ tt; few = lit≤ tt })
    (λ _. cond_both (draw == 6) _ _ IsStep (λ _. record { same = refl; strokes = refl; printable = refl; short = lit≤ tt; few = lit≤ tt })
    (λ _. record { same = refl; strokes = refl; printable = refl; short = lit≤ tt; few = lit≤ tt }))))

-- the keys of steps print their texts
pub keys_print : (draws : List ℕ) → flat_map key_text (flat_map step_keys draws) ≡ flat_map step_text draws
keys_print [] = refl
keys_print (draw ∷ draws) =
    flat_map-append key_text (step_keys draw) (flat_map step_keys draws)
    ∙ ap₂ (λ (a b : List ℕ). a ++ b) (each_step draw).same (keys_print draws)

-- a script can name them
pub keys_named : (draws : List ℕ) → list_all is_key_stroke (flat_map step_keys draws) ≡ true
keys_named [] = refl
keys_named (draw ∷ draws) =
    list_all-append is_key_stroke (step_keys draw) (flat_map step_keys draws) ∙ and_from _ _ (each_step draw).strokes (keys_named draws)

-- the texts are printable
pub texts_printable : (draws : List ℕ) → list_all is_printable (flat_map step_text draws) ≡ true
texts_printable [] = refl
texts_printable (draw ∷ draws) =
    list_all-append is_printable (step_text draw) (flat_map step_text draws) ∙ and_from _ _ (each_step draw).printable (texts_printable draws)

-- a byte below the space is none of printable ones
pub none_below : (b : ℕ) (bytes : List ℕ) → b < 32 → list_all is_printable bytes ≡ true → list_any (λ byte. eqb byte b) bytes ≡ false
none_below b [] low h = refl
none_below b (x ∷ bytes) low h =
    let both = and_parts _ _ h in
    let high : 32 ≤ x = leb-true _ _ (and_parts _ _ both.0).0 in
    or_from _ _ (ne_eqb x b (λ e. omega arith)) (none_below b bytes low both.1)

-- five bytes and five keys for each step at most
pub texts_short : (draws : List ℕ) → length (flat_map step_text draws) ≤ 5 * length draws
texts_short [] = omega arith
texts_short (draw ∷ draws) =
    let first : length (step_text draw) ≤ 5 = (each_step draw).short in
    let rest : length (flat_map step_text draws) ≤ 5 * length draws = texts_short draws in
    let e : length (step_text draw ++ flat_map step_text draws) ≡ length (step_text draw) + length (flat_map step_text draws) =
    length-append (step_text draw) (flat_map step_text draws) in
    omega arith

pub keys_few : (draws : List ℕ) → length (flat_map step_keys draws) ≤ 5 * length draws
keys_few [] = omega arith
keys_few (draw ∷ draws) =
    let first : length (step_keys draw) ≤ 5 = (each_step draw).few in
    let rest : length (flat_map step_keys draws) ≤ 5 * length draws = keys_few draws in
    let e : length (step_keys draw ++ flat_map step_keys draws) ≡ length (step_keys draw) + length (flat_map step_keys draws) =
    length-append (step_keys draw) (flat_map step_keys draws) in
    omega arith

-- a number gives as many draws as are asked
pub draws_counted : (n number : ℕ) → length (draws_from n number) ≡ n
unfolding draws_from
draws_counted zero number = refl
draws_counted (suc n) number = ap suc (draws_counted n (next_number number))

-- draws, and those behind them
pub draws_joined : (m n number : ℕ) → draws_from (m + n) number ≡ draws_from m number ++ draws_from n (number_after m number)
unfolding draws_from number_after
draws_joined zero n number = let e : 0 + n ≡ n = omega arith in ap (λ k. draws_from k number) e
draws_joined (suc m) n number =
    let e : suc m + n ≡ suc (m + n) = omega arith in
    ap (λ k. draws_from k number) e ∙ ap (λ l. draw_of (next_number number) ∷ l) (draws_joined m n (next_number number))
