-- The parts that a text is split into.
use Rattle.std.proofs.Common.{◌≡◌, ℕ, zero, suc, Bool, true, false, not, List, [], ◌∷◌, ◌++◌, take, drop, refl, ap, ◌∙◌}
use Rattle.std.specs.List.{list_all, list_any, slice_split, onto_first}
use Rattle.std.proofs.lemmas.Bool.{and_parts, and_from, cond-true, cond-false, cond_both, not-true, not_from_false, or_parts, or_from}

-- a part, a byte that parts and a rest are split behind the part
pub split_at : (p : ℕ → Bool) (b : ℕ) (part rest : List ℕ) → p b ≡ true → list_any p part ≡ false → slice_split p (part ++ (b ∷ rest)) ≡ part ∷ slice_split p rest
split_at p b [] rest e h = cond-true (p b) _ _ e
split_at p b (x ∷ part) rest e h =
    let both = or_parts _ _ h in cond-false (p x) _ _ both.0 ∙ ap (onto_first x) (split_at p b part rest e both.1)

-- a part alone is the only one
pub last_part : (p : ℕ → Bool) (part : List ℕ) → list_any p part ≡ false → slice_split p part ≡ part ∷ []
last_part p [] h = refl
last_part p (x ∷ part) h =
    let both = or_parts _ _ h in cond-false (p x) _ _ both.0 ∙ ap (onto_first x) (last_part p part both.1)

-- a text has a first part
pub some_part : (p : ℕ → Bool) (text : List ℕ) → (part : List ℕ) × (parts : List (List ℕ)) × (slice_split p text ≡ part ∷ parts)
some_part p [] = ([], [], refl)
some_part p (x ∷ text) =
    let s = some_part p text in
    cond_both (p x) ([] ∷ slice_split p text) (onto_first x (slice_split p text))
    (λ all. (part : List ℕ) × (parts : List (List ℕ)) × (all ≡ part ∷ parts))
    (λ _. ([], slice_split p text, refl)) (λ _. (x ∷ s.0, s.1, ap (onto_first x) s.2))

-- a byte that parts nothing before the first part
onto_free : (p : ℕ → Bool) (x : ℕ) (parts : List (List ℕ)) → p x ≡ false → list_all (λ part. not (list_any p part)) parts ≡ true
    → list_all (λ part. not (list_any p part)) (onto_first x parts) ≡ true
onto_free p x [] e h = and_from _ _ (not_from_false _ (or_from _ _ e refl)) refl
onto_free p x (part ∷ parts) e h =
    let both = and_parts _ _ h in and_from _ _ (not_from_false _ (or_from _ _ e (not-true _ both.0))) both.1

-- no part has a byte that parts
pub parts_free : (p : ℕ → Bool) (text : List ℕ) → list_all (λ part. not (list_any p part)) (slice_split p text) ≡ true
parts_free p [] = refl
parts_free p (x ∷ text) =
    cond_both (p x) ([] ∷ slice_split p text) (onto_first x (slice_split p text)) (λ parts. list_all (λ part. not (list_any p part)) parts ≡ true)
    (λ _. parts_free p text) (λ e. onto_free p x (slice_split p text) e (parts_free p text))

-- a byte before the first part
onto_all : (p : ℕ → Bool) (x : ℕ) (parts : List (List ℕ)) → p x ≡ true → list_all (list_all p) parts ≡ true → list_all (list_all p) (onto_first x parts) ≡ true
onto_all p x [] e h = and_from _ _ (and_from _ _ e refl) refl
onto_all p x (part ∷ parts) e h = let both = and_parts _ _ h in and_from _ _ (and_from _ _ e both.0) both.1

-- what all of a text pass, all of its parts pass
pub split_all : (p q : ℕ → Bool) (text : List ℕ) → list_all p text ≡ true → list_all (list_all p) (slice_split q text) ≡ true
split_all p q [] h = refl
split_all p q (x ∷ text) h =
    let both = and_parts _ _ h in
    cond_both (q x) ([] ∷ slice_split q text) (onto_first x (slice_split q text)) (λ parts. list_all (list_all p) parts ≡ true)
    (λ _. split_all p q text both.1) (λ _. onto_all p x _ both.0 (split_all p q text both.1))

-- what all of a list pass, all of its end pass
pub all_dropped : (p : ℕ → Bool) (n : ℕ) (xs : List ℕ) → list_all p xs ≡ true → list_all p (drop n xs) ≡ true
all_dropped p zero [] h = h
all_dropped p (suc n) [] h = h
all_dropped p zero (x ∷ xs) h = h
all_dropped p (suc n) (x ∷ xs) h = all_dropped p n xs (and_parts _ _ h).1

-- what none of a list pass, none of its end pass
pub none_dropped : (p : ℕ → Bool) (n : ℕ) (xs : List ℕ) → list_any p xs ≡ false → list_any p (drop n xs) ≡ false
none_dropped p zero [] h = h
none_dropped p (suc n) [] h = h
none_dropped p zero (x ∷ xs) h = h
none_dropped p (suc n) (x ∷ xs) h = none_dropped p n xs (or_parts _ _ h).1

-- nor of its front
pub none_taken : (p : ℕ → Bool) (n : ℕ) (xs : List ℕ) → list_any p xs ≡ false → list_any p (take n xs) ≡ false
none_taken p zero [] h = refl
none_taken p (suc n) [] h = refl
none_taken p zero (x ∷ xs) h = refl
none_taken p (suc n) (x ∷ xs) h = let both = or_parts _ _ h in or_from _ _ both.0 (none_taken p n xs both.1)

-- where all fail a test, none passes it
pub none_pass : (p : ℕ → Bool) (xs : List ℕ) → list_all (λ x. not (p x)) xs ≡ true → list_any p xs ≡ false
none_pass p [] h = refl
none_pass p (x ∷ xs) h = let both = and_parts _ _ h in or_from _ _ (not-true _ both.0) (none_pass p xs both.1)
