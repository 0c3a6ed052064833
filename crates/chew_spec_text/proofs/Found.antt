-- What holds of a value that may be there.
use Rattle.std.proofs.Common.{◌≡◌, Bool, true, List, [], ◌∷◌, Option, Some, None, refl, sym, ap, ◌∙◌}
use Rattle.std.specs.List.{find, list_all}
use Rattle.std.specs.Option.{option_map}
use Rattle.std.proofs.lemmas.Bool.{and_parts, cond_both}

-- the test passes the value, if there is one
abbrev pub holds_in : {A : Type 0} → (A → Bool) → Option A → Bool
holds_in p None = true
holds_in p (Some x) = p x

-- the value that is there
pub at_value : {A : Type 0} (p : A → Bool) (o : Option A) (x : A) → holds_in p o ≡ true → o ≡ Some x → p x ≡ true
at_value p o x h e = sym (ap (holds_in p) e) ∙ h

-- what a search found passes each test that all pass
pub found_among : {A : Type 0} (p q : A → Bool) (xs : List A) → list_all q xs ≡ true → holds_in q (find p xs) ≡ true
found_among p q [] h = refl
found_among p q (x ∷ xs) h =
    let both = and_parts _ _ h in
    cond_both (p x) (Some x) (find p xs) (λ o. holds_in q o ≡ true) (λ _. both.0) (λ _. found_among p q xs both.1)

-- and the test of the search
pub found_by : {A : Type 0} (p : A → Bool) (xs : List A) → holds_in p (find p xs) ≡ true
found_by p [] = refl
found_by p (x ∷ xs) = cond_both (p x) (Some x) (find p xs) (λ o. holds_in p o ≡ true) (λ e. e) (λ _. found_by p xs)

-- what is made of the value
pub made_of : {A B : Type 0} (f : A → B) (q : B → Bool) (o : Option A) → holds_in (λ x. q (f x)) o ≡ true → holds_in q (option_map f o) ≡ true
made_of f q None h = refl
made_of f q (Some x) h = h
