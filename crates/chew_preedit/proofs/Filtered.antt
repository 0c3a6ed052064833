-- A loop that pushes what passes a test.
use Rattle.std.proofs.Common.{◌≡◌, ℕ, zero, suc, ◌+◌, ◌<◌, ◌≤◌, Bool, true, false, cond, List, [], ◌∷◌, ◌++◌, length, get_or, take, map, filter, refl, ap, arith}
use Rattle.std.proofs.lemmas.List.{length-append, length-map}

one_more : {X : Type 0} (b : Bool) (x : X) (xs ys : List X) → length xs + 1 ≤ length ys → length (cond b (x ∷ xs) xs) + 1 ≤ length (cond b (x ∷ ys) ys)
one_more true x xs ys l = omega arith
one_more false x xs ys l = l

first_more : {X : Type 0} (b : Bool) (x : X) (ys : List X) → b ≡ true → 0 + 1 ≤ length (cond b (x ∷ ys) ys)
first_more true x ys e = omega arith
first_more false x ys e = absurd (cc)

-- what passes at a place is one more than what passed before it
pub length-filter_front : {X : Type 0} (p : X → Bool) (xs : List X) (i : ℕ) (d : X) → i < length xs → p (get_or xs i d) ≡ true → length (filter p (take i xs)) + 1 ≤ length (filter p xs)
length-filter_front p [] i d l e = absurd (omega arith)
length-filter_front p (x ∷ xs) zero d l e = first_more (p x) x (filter p xs) e
length-filter_front p (x ∷ xs) (suc i) d l e = one_more (p x) x (filter p (take i xs)) (filter p xs) (length-filter_front p xs i d (omega arith) e)

-- there is room for it
pub room_before : {X : Type 0} (p : X → Bool) (had now xs : List X) (i : ℕ) (d : X) → i < length xs → p (get_or xs i d) ≡ true
    → now ≡ had ++ filter p (take i xs) → length had + length (filter p xs) ≤ 39 → length now < 39
room_before p had now xs i d l e h m = omega (arith, length-filter_front p xs i d l e, ap length h, length-append had (filter p (take i xs)))

pub room_behind : {X Y : Type 0} (p : X → Bool) (f : X → Y) (had now : List Y) (xs : List X) (i : ℕ) (d : X) → i < length xs → p (get_or xs i d) ≡ true
    → now ≡ had ++ map f (filter p (take i xs)) → length had + length (filter p xs) ≤ 39 → length now < 39
room_behind p f had now xs i d l e h m =
    omega (arith, length-filter_front p xs i d l e, ap length h, length-append had (map f (filter p (take i xs))), length-map (filter p (take i xs)) f)
