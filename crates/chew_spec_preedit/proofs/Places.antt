-- What stands at a place of cells of which some were cut out or put in.
use Rattle.std.proofs.Common.{◌≡◌, ℕ, zero, suc, ◌+◌, ◌-◌, ◌<◌, ◌≤◌, Bool, true, false, List, [], ◌∷◌, ◌++◌, length, take, drop, Option, Some, None, refl, ap, sym, ◌∙◌, subst, arith}
use Rattle.std.specs.List.{slice_get, list_all}
use Rattle.std.specs.Option.{option_map_or}
use Rattle.std.proofs.lemmas.Bool.{and_from, and_parts, false≢true}
use Rattle.chew_spec_preedit.specs.Cell.{Cell, has_sound, is_sound}

-- before the place where something else begins
pub slice_get-front : {X : Type 0} (xs ys : List X) (n k : ℕ) → k < n → n ≤ length xs → slice_get (take n xs ++ ys) k ≡ slice_get xs k
slice_get-front [] ys n k l w = absurd (omega arith)
slice_get-front (x ∷ xs) ys zero k l w = absurd (omega arith)
slice_get-front (x ∷ xs) ys (suc n) zero l w = refl
slice_get-front (x ∷ xs) ys (suc n) (suc k) l w = slice_get-front xs ys n k (omega arith) (omega arith)

-- and behind it
pub slice_get-behind : {X : Type 0} (xs ys : List X) (n k i : ℕ) → i ≡ n + k → n ≤ length xs → slice_get (take n xs ++ ys) i ≡ slice_get ys k
slice_get-behind xs ys zero k i e w = ap (slice_get ys) (let f : i ≡ k = omega arith in f)
slice_get-behind [] ys (suc n) k i e w = absurd (omega arith)
slice_get-behind (x ∷ xs) ys (suc n) k zero e w = absurd (omega arith)
slice_get-behind (x ∷ xs) ys (suc n) k (suc i) e w = slice_get-behind xs ys n k i (omega arith) (omega arith)

-- of what is left behind a cut
pub slice_get-drop : {X : Type 0} (xs : List X) (n k i : ℕ) → i ≡ n + k → slice_get (drop n xs) k ≡ slice_get xs i
slice_get-drop xs zero k i e = ap (slice_get xs) (let f : k ≡ i = omega arith in f)
slice_get-drop [] (suc n) k i e = refl
slice_get-drop (x ∷ xs) (suc n) k zero e = absurd (omega arith)
slice_get-drop (x ∷ xs) (suc n) k (suc i) e = slice_get-drop xs n k i (omega arith)

-- there is a syllable only within the cells
pub has_sound-within : (cells : List Cell) (place : ℕ) → has_sound cells place ≡ true → place < length cells
has_sound-within [] place e = absurd (false≢true e)
has_sound-within (cell ∷ cells) zero e = omega arith
has_sound-within (cell ∷ cells) (suc place) e = let r = has_sound-within cells place e in omega arith

-- the first of some cells are syllables where each of them is
sounds_at : (cells : List Cell) (n j : ℕ) → n ≤ length cells → list_all is_sound (take n cells) ≡ true → j < n → has_sound cells j ≡ true
sounds_at cells zero j w e l = absurd (omega arith)
sounds_at [] (suc n) j w e l = absurd (omega arith)
sounds_at (cell ∷ cells) (suc n) zero w e l = (and_parts (is_sound cell) (list_all is_sound (take n cells)) e).0
sounds_at (cell ∷ cells) (suc n) (suc j) w e l = sounds_at cells n j (omega arith) ((and_parts (is_sound cell) (list_all is_sound (take n cells)) e).1) (omega arith)

sounds_from : (cells : List Cell) (n : ℕ) → ((j : ℕ) → j < n → has_sound cells j ≡ true) → list_all is_sound (take n cells) ≡ true
sounds_from cells zero h = refl
sounds_from [] (suc n) h = refl
sounds_from (cell ∷ cells) (suc n) h =
    and_from (is_sound cell) (list_all is_sound (take n cells)) (h 0 (omega arith)) (sounds_from cells n (λ j l. h (suc j) (omega arith)))

-- all cells of a stretch are syllables: each of them is
pub sounds-at : (cells : List Cell) (start n k : ℕ) → start + n ≤ length cells → list_all is_sound (take n (drop start cells)) ≡ true → start ≤ k → k < start + n → has_sound cells k ≡ true
sounds-at cells start n k w e l m =
    ap (λ found. option_map_or is_sound found false) (sym (slice_get-drop cells start (k - start) k (omega arith)))
    ∙ sounds_at (drop start cells) n (k - start) (left cells start n w) e (omega arith)
  where
    left : (cells : List Cell) (start n : ℕ) → start + n ≤ length cells → n ≤ length (drop start cells)
    left cells zero n w = omega arith
    left [] (suc start) n w = absurd (omega arith)
    left (cell ∷ cells) (suc start) n w = left cells start n (omega arith)

pub sounds-from : (cells : List Cell) (start n : ℕ) → ((k : ℕ) → start ≤ k → k < start + n → has_sound cells k ≡ true) → list_all is_sound (take n (drop start cells)) ≡ true
sounds-from cells start n h =
    sounds_from (drop start cells) n (λ j l.
    ap (λ found. option_map_or is_sound found false) (slice_get-drop cells start j (start + j) refl) ∙ h (start + j) (omega arith) (omega arith))
