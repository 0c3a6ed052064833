-- The characters of cells, one cell after another.
use Rattle.std.specs.Prelude.{◌≡◌, ℕ, zero, suc, ◌+◌, ◌<◌, ◌≤◌, List, [], ◌∷◌, ◌++◌, drop, get_or, length, map, option_to_list}
use Rattle.std.proofs.Common.{refl, ap, sym, ◌∙◌, arith, append_assoc}
use Rattle.std.proofs.lemmas.List.{append-nil, drop_all}
use Rattle.chew_spec_phrasing.specs.Usable.{Piece}
use Rattle.chew_spec_preedit.specs.Cell.{Cell, Sound, Symbol}
use Rattle.chew_spec_preedit.specs.ShownText.{character_at, characters_from}

-- the first cell, and those behind it
characters-cons : (pieces : List Piece) (place : ℕ) (cell : Cell) (cells : List Cell)
    → characters_from pieces place (cell ∷ []) ++ characters_from pieces (suc place) cells ≡ characters_from pieces place (cell ∷ cells)
characters-cons pieces place (Symbol byte) cells = refl
characters-cons pieces place (Sound code) cells = append_assoc (option_to_list (character_at pieces place)) [] (characters_from pieces (suc place) cells)

drop_first : {X : Type 0} (xs : List X) (i : ℕ) (x : X) → i < length xs → x ≡ get_or xs i x → drop i xs ≡ x ∷ drop (suc i) xs
drop_first [] i x h e = absurd (omega arith)
drop_first (y ∷ xs) zero x h e = ap (λ z. z ∷ xs) (sym e)
drop_first (y ∷ xs) (suc i) x h e = drop_first xs i x (omega arith) e

-- one cell more
pub characters-more : {X : Type 0} (f : X → Cell) (pieces : List Piece) (i : ℕ) (items : List X) (all pushed whole : List ℕ) (item : X) → i < length items → item ≡ get_or items i item
    → pushed ≡ all ++ characters_from pieces i (f item ∷ []) → all ++ characters_from pieces i (map f (drop i items)) ≡ whole
    → pushed ++ characters_from pieces (i + 1) (map f (drop (i + 1) items)) ≡ whole
characters-more f pieces i items all pushed whole item h e push is =
    let next : i + 1 ≡ suc i = omega arith in
    let rest = map f (drop (suc i) items) in
    ap (λ k. pushed ++ characters_from pieces k (map f (drop k items))) next
    ∙ ap (λ xs. xs ++ characters_from pieces (suc i) rest) push
    ∙ append_assoc all (characters_from pieces i (f item ∷ [])) (characters_from pieces (suc i) rest)
    ∙ ap (λ xs. all ++ xs) (characters-cons pieces i (f item) rest)
    ∙ sym (ap (λ xs. all ++ characters_from pieces i (map f xs)) (drop_first items i item h e))
    ∙ is

-- all cells
pub characters-all : {X : Type 0} (f : X → Cell) (pieces : List Piece) (i : ℕ) (items : List X) (all whole : List ℕ) → length items ≤ i
    → all ++ characters_from pieces i (map f (drop i items)) ≡ whole → all ≡ whole
characters-all f pieces i items all whole h is =
    sym (append-nil all) ∙ sym (ap (λ xs. all ++ characters_from pieces i (map f xs)) (drop_all i items h)) ∙ is
