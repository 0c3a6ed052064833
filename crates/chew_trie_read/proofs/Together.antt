-- The rows of a key stand together.
use Rattle.std.proofs.Common.{◌≡◌, ◌⊎◌, ℕ, ◌+◌, ◌-◌, ◌<◌, ◌≤◌, true, not, ltb, List, [], ◌∷◌, length, take, drop, refl, sym, ap, ◌∙◌, inl, inr, ⊎_elim, arith}
use Rattle.std.specs.List.{list_all}
use Rattle.std.proofs.lemmas.Bool.{cases_lt, eq-eqb, le-ltb, lt-ltb, ne_eqb}
use Rattle.std.proofs.lemmas.List.{length-drop, length-take-le, nil_from_length}
use Rattle.chew_spec_syllable.specs.Row.{Row, is_row}
use Rattle.chew_spec_dictionary.specs.Dictionary.{is_map}
use Rattle.chew_spec_dictionary.specs.System.{has_single, is_under, rows_under}
use Rattle.chew_spec_image.specs.Fields.{Node}
use Rattle.chew_spec_image.specs.NodeKeys.{node_keys}
use Rattle.chew_spec_image.proofs.Bounds.{row_in}
use Rattle.chew_spec_image.proofs.Families.{under_key}
use Rattle.chew_spec_image.proofs.NodeKeys.{whole_in}
use Rattle.chew_spec_image.proofs.Rising.{In, in_filter}
use Rattle.chew_plain.proofs.KeyRows.{any_kept}
use Rattle.chew_trie_read.specs.Search.{IsNode, key_at}
use Rattle.chew_trie_read.proofs.Places.{get_in, rows_of_node}

-- where a node has the key, its rows are the key's
pub found_rows : (rows : List Row) (key : List ℕ) (i : ℕ) (node : Node) → is_map rows ≡ true → list_all is_row rows ≡ true → IsNode rows i node → key_at rows i ≡ key
    → take ((node.first_row + node.rows) - node.first_row) (drop node.first_row rows) ≡ rows_under rows key
found_rows rows key i node m each n k =
    let count : (node.first_row + node.rows) - node.first_row ≡ node.rows = omega arith in
    ap (λ (c : ℕ). take c (drop node.first_row rows)) count ∙ (rows_of_node rows i node m each n).0 ∙ ap (rows_under rows) k

pub found_within : (rows : List Row) (i : ℕ) (node : Node) → is_map rows ≡ true → list_all is_row rows ≡ true → IsNode rows i node → node.first_row + node.rows ≤ length rows
found_within rows i node m each n = (rows_of_node rows i node m each n).1

-- a list is empty, or has an element
empty_or : {X : Type 0} (xs : List X) → (length xs ≡ 0) ⊎ ((x : X) × In x xs)
empty_or [] = inl refl
empty_or (x ∷ xs) = inr (x, inl refl)

-- where none has it, there are no rows of it
pub no_rows : (rows : List Row) (key : List ℕ) → list_all is_row rows ≡ true → ((i : ℕ) → i < length (node_keys rows) → key_at rows i ≡ key → ⊥) → [] ≡ rows_under rows key
no_rows rows key each none = sym (⊎_elim
    (λ (z : length (rows_under rows key) ≡ 0). nil_from_length (rows_under rows key) z)
    (λ (c : (row : Row) × In row (rows_under rows key)).
    let f = in_filter (is_under key) c.0 rows c.1 in
    let k = under_key key c.0 f.1 in
    let there = get_in c.0.key (node_keys rows) [] (whole_in c.0 rows f.0 (row_in c.0 rows each f.0).some) in
    absurd (none there.0 there.1 (there.2 ∙ k)))
    (empty_or (rows_under rows key)))

-- a syllable has a row by itself where its places aren't none
pub single : (rows : List Row) (code start end : ℕ) → start ≤ end → end ≤ length rows → take (end - start) (drop start rows) ≡ rows_under rows (code ∷ []) → ltb start end ≡ has_single rows code
single rows code start end order within e =
    let d = length-drop start rows in
    let l = length-take-le (end - start) (drop start rows) (omega arith) in
    let n : length (rows_under rows (code ∷ [])) ≡ end - start = ap length (sym e) ∙ l in
    ⊎_elim
    (λ (h : start < end). lt-ltb start end h ∙ ap not (sym (ne_eqb (length (rows_under rows (code ∷ []))) 0 (λ z. omega arith))))
    (λ (h : end ≤ start). le-ltb start end h ∙ ap not (sym (eq-eqb (length (rows_under rows (code ∷ []))) 0 (omega arith))))
    (cases_lt start end)
    ∙ any_kept (is_under (code ∷ [])) rows
