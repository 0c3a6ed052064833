-- What one line does to the contexts and rounds of a script.
use Rattle.std.proofs.Common.{◌≡◌, ℕ, zero, suc, ◌+◌, ◌-◌, ◌<◌, ◌≤◌, max, Bool, true, false, cond, ◌&&◌, eqb, leb, ltb, List, [], ◌∷◌, ◌++◌, length, get_or, Result, Ok, Err, refl, sym, ap, ◌∙◌, subst, arith}
use Rattle.std.specs.List.{list_all}
use Rattle.std.proofs.lemmas.Bool.{and_parts, and_from, eqb-true, eqb-false, leb-true, ltb-true, cond_both}
use Rattle.std.proofs.lemmas.List.{append-nil, length-append}
use Rattle.std.proofs.lemmas.List.Folds.{list_all-append}
use Rattle.std.proofs.lemmas.List.Sums.{sum_by-cons}
use Rattle.chew_spec_text.specs.KeyStroke.{KeyStroke, is_key_stroke}
use Rattle.chew_spec_text.specs.Script.{Script, ScriptLine, ScriptCause, Nothing, Round, KeyLine, add_keys, keys_count, keys_limit, rounds_limit, with_script_line}
use Rattle.chew_spec_text.specs.Statement.{context_in_said, is_round_said, keys_in_said}

-- a value that only a test lets through
passed : {A E : Type 0} (test : Bool) (x t : A) (e : E) → cond test (Ok x) (Err e) ≡ Ok t → (test ≡ true) × (x ≡ t)
passed true x t e h = let same : x ≡ t = cc in (refl, same)
passed false x t e h = absurd cc

-- each context before the place is there then
added_length : (n : ℕ) (keys : List KeyStroke) (contexts : List (List KeyStroke)) → length (add_keys n keys contexts) ≡ max (length contexts) (suc n)
added_length zero keys [] = omega arith
added_length zero keys (had ∷ rest) = omega arith
added_length (suc n) keys [] = let more : length (add_keys n keys []) ≡ max 0 (suc n) = added_length n keys [] in omega arith
added_length (suc n) keys (had ∷ rest) = let more : length (add_keys n keys rest) ≡ max (length rest) (suc n) = added_length n keys rest in omega arith

-- how many keys a context and others have
count_more : (first : List KeyStroke) (rest : List (List KeyStroke)) → keys_count (first ∷ rest) ≡ length first + keys_count rest
count_more first rest = sum_by-cons length first rest

-- as many keys more
added_count : (n : ℕ) (keys : List KeyStroke) (contexts : List (List KeyStroke)) → keys_count (add_keys n keys contexts) ≡ keys_count contexts + length keys
added_count zero keys [] = omega (arith, count_more keys [])
added_count zero keys (had ∷ rest) = omega (arith, length-append had keys, count_more (had ++ keys) rest, count_more had rest)
added_count (suc n) keys [] = omega (arith, count_more [] (add_keys n keys []), added_count n keys [])
added_count (suc n) keys (had ∷ rest) = omega (arith, count_more had (add_keys n keys rest), count_more had rest, added_count n keys rest)

-- the keys stand behind those of their context
added_here : (n : ℕ) (keys : List KeyStroke) (contexts : List (List KeyStroke)) → get_or (add_keys n keys contexts) n [] ≡ get_or contexts n [] ++ keys
added_here zero keys [] = refl
added_here zero keys (had ∷ rest) = refl
added_here (suc n) keys [] = added_here n keys []
added_here (suc n) keys (had ∷ rest) = added_here n keys rest

-- the keys of the others stay
added_there : (n m : ℕ) (keys : List KeyStroke) (contexts : List (List KeyStroke)) → (n ≡ m → ⊥) → get_or (add_keys n keys contexts) m [] ≡ get_or contexts m []
added_there zero zero keys contexts ne = absurd (ne refl)
added_there zero (suc m) keys [] ne = refl
added_there zero (suc m) keys (had ∷ rest) ne = refl
added_there (suc n) zero keys [] ne = refl
added_there (suc n) zero keys (had ∷ rest) ne = refl
added_there (suc n) (suc m) keys [] ne = added_there n m keys [] (λ e. ne (ap suc e))
added_there (suc n) (suc m) keys (had ∷ rest) ne = added_there n m keys rest (λ e. ne (ap suc e))

-- what a line says is in range: its context is 1 to 16, and its keys are keys of a script
abbrev pub is_said_in_range : Result ScriptLine ScriptCause → Bool
is_said_in_range (Ok (KeyLine number keys)) = (leb 1 number && leb number 16) && list_all is_key_stroke keys
is_said_in_range _ = true

-- the script with the keys of a line
abbrev pub with_keys : Script → ℕ → List KeyStroke → Script
with_keys script number keys = record script { contexts = add_keys (number - 1) keys script.contexts }

-- a line adds its keys to those of its context
pub line_keys : (place : ℕ) (u t : Script) (said : Result ScriptLine ScriptCause) → is_said_in_range said ≡ true → with_script_line u said ≡ Ok t
    → get_or t.contexts place [] ≡ get_or u.contexts place [] ++ keys_in_said (place + 1) said
line_keys place u t (Err cause) r h = absurd cc
line_keys place u t (Ok Nothing) r h = let same : t ≡ u = cc in ap (λ (s : Script). get_or s.contexts place []) same ∙ sym (append-nil _)
line_keys place u t (Ok Round) r h =
    let p = passed (ltb u.rounds rounds_limit) (record u { rounds = suc u.rounds }) t _ h in
    ap (λ (s : Script). get_or s.contexts place []) (sym p.1) ∙ sym (append-nil _)
line_keys place u t (Ok (KeyLine number keys)) r h =
    let p = passed (leb (keys_count u.contexts + length keys) keys_limit) (with_keys u number keys) t _ h in
    let low : 1 ≤ number = leb-true _ _ (and_parts _ _ (and_parts _ _ r).0).0 in
    ap (λ (s : Script). get_or s.contexts place []) (sym p.1)
    ∙ cond_both (eqb number (place + 1)) keys [] (λ more. get_or (add_keys (number - 1) keys u.contexts) place [] ≡ get_or u.contexts place [] ++ more)
    (λ e. let is : number ≡ place + 1 = eqb-true _ _ e in let there : number - 1 ≡ place = omega arith in
    subst (λ n. get_or (add_keys n keys u.contexts) place [] ≡ get_or u.contexts place [] ++ keys) (sym there)
    (added_here place keys u.contexts))
    (λ e. added_there (number - 1) place keys u.contexts (λ same. eqb-false _ _ e (omega arith)) ∙ sym (append-nil _))

-- a line makes room for its context
pub line_contexts : (u t : Script) (said : Result ScriptLine ScriptCause) → is_said_in_range said ≡ true → with_script_line u said ≡ Ok t
    → length t.contexts ≡ max (length u.contexts) (context_in_said said)
line_contexts u t (Err cause) r h = absurd cc
line_contexts u t (Ok Nothing) r h = let same : t ≡ u = cc in let e : length t.contexts ≡ length u.contexts = ap (λ (s : Script). length s.contexts) same in omega arith
line_contexts u t (Ok Round) r h =
    let p = passed (ltb u.rounds rounds_limit) (record u { rounds = suc u.rounds }) t _ h in
    let e : length u.contexts ≡ length t.contexts = ap (λ (s : Script). length s.contexts) p.1 in omega arith
line_contexts u t (Ok (KeyLine number keys)) r h =
    let p = passed (leb (keys_count u.contexts + length keys) keys_limit) (with_keys u number keys) t _ h in
    let low : 1 ≤ number = leb-true _ _ (and_parts _ _ (and_parts _ _ r).0).0 in
    let e : length (add_keys (number - 1) keys u.contexts) ≡ length t.contexts = ap (λ (s : Script). length s.contexts) p.1 in
    let a : length (add_keys (number - 1) keys u.contexts) ≡ max (length u.contexts) (suc (number - 1)) = added_length (number - 1) keys u.contexts in
    omega arith

-- a line `round` asks one round more
pub line_rounds : (u t : Script) (said : Result ScriptLine ScriptCause) → with_script_line u said ≡ Ok t → t.rounds ≡ u.rounds + cond (is_round_said said) 1 0
line_rounds u t (Err cause) h = absurd cc
line_rounds u t (Ok Nothing) h = let same : t ≡ u = cc in let e : t.rounds ≡ u.rounds = ap (λ (s : Script). s.rounds) same in omega arith
line_rounds u t (Ok Round) h =
    let p = passed (ltb u.rounds rounds_limit) (record u { rounds = suc u.rounds }) t _ h in
    let e : suc u.rounds ≡ t.rounds = ap (λ (s : Script). s.rounds) p.1 in omega arith
line_rounds u t (Ok (KeyLine number keys)) h =
    let p = passed (leb (keys_count u.contexts + length keys) keys_limit) (with_keys u number keys) t _ h in
    let e : u.rounds ≡ t.rounds = ap (λ (s : Script). s.rounds) p.1 in omega arith

-- what a script never exceeds
pub record Bounded (script : Script) : Type 0 where
  pub contexts : length script.contexts ≤ 16
  pub keys : keys_count script.contexts ≤ 65_536
  pub rounds : script.rounds ≤ 64
  pub strokes : list_all (list_all is_key_stroke) script.contexts ≡ true

-- keys of a script behind such keys
added_strokes : (n : ℕ) (keys : List KeyStroke) (contexts : List (List KeyStroke)) → list_all is_key_stroke keys ≡ true
    → list_all (list_all is_key_stroke) contexts ≡ true → list_all (list_all is_key_stroke) (add_keys n keys contexts) ≡ true
added_strokes zero keys [] k h = and_from _ _ k refl
added_strokes zero keys (had ∷ rest) k h =
    let both = and_parts _ _ h in and_from _ _ (list_all-append is_key_stroke had keys ∙ and_from _ _ both.0 k) both.1
added_strokes (suc n) keys [] k h = added_strokes n keys [] k refl
added_strokes (suc n) keys (had ∷ rest) k h = let both = and_parts _ _ h in and_from _ _ both.0 (added_strokes n keys rest k both.1)

-- a line keeps that
pub line_bounded : (u t : Script) (said : Result ScriptLine ScriptCause) → is_said_in_range said ≡ true → with_script_line u said ≡ Ok t → Bounded u → Bounded t
line_bounded u t (Err cause) r h b = absurd cc
line_bounded u t (Ok Nothing) r h b = let same : u ≡ t = cc in subst Bounded same b
line_bounded u t (Ok Round) r h b =
    let p = passed (ltb u.rounds rounds_limit) (record u { rounds = suc u.rounds }) t _ h in
    let low : u.rounds < 64 = ltb-true _ _ p.0 in
    subst Bounded p.1 (record { contexts = b.contexts; keys = b.keys; rounds = omega arith; strokes = b.strokes })
line_bounded u t (Ok (KeyLine number keys)) r h b =
    let p = passed (leb (keys_count u.contexts + length keys) keys_limit) (with_keys u number keys) t _ h in
    let both = and_parts _ _ r in
    let range = and_parts _ _ both.0 in
    let high : number ≤ 16 = leb-true _ _ range.1 in
    let few : keys_count u.contexts + length keys ≤ 65_536 = leb-true _ _ p.0 in
    let a : length (add_keys (number - 1) keys u.contexts) ≡ max (length u.contexts) (suc (number - 1)) = added_length (number - 1) keys u.contexts in
    let c : keys_count (add_keys (number - 1) keys u.contexts) ≡ keys_count u.contexts + length keys = added_count (number - 1) keys u.contexts in
    let low : 1 ≤ number = leb-true _ _ range.0 in
    let had : length u.contexts ≤ 16 = b.contexts in
    subst Bounded p.1 (record { contexts = omega arith; keys = omega arith; rounds = b.rounds; strokes = added_strokes (number - 1) keys u.contexts both.1 b.strokes })
