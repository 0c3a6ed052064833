-- Rows that are taken off the front of those that are left, one by one.
use Rattle.std.proofs.Common.{◌≡◌, ◌<◌, List, [], ◌∷◌, ◌++◌, length, length-append, ap, sym, ◌∙◌, append_assoc, append-nil, arith}
use Rattle.chew_spec_syllable.specs.Row.{Row}

-- one row more
pub one_more : (so_far left rest all : List Row) (row : Row) → so_far ++ left ≡ all → left ≡ row ∷ rest → (so_far ++ row ∷ []) ++ rest ≡ all
one_more so_far left rest all row joined next = append_assoc so_far (row ∷ []) rest ∙ ap (λ (l : List Row). so_far ++ l) (sym next) ∙ joined

-- which there is room for
pub has_room : (so_far left rest all : List Row) (row : Row) → so_far ++ left ≡ all → left ≡ row ∷ rest → length so_far < length all
has_room so_far left rest all row joined next =
    let a = ap length joined in
    let b = length-append so_far left in
    let d = ap length next in
    omega (arith, a, b, d)

-- where none is left, the rows so far are all
pub no_more : (so_far left all : List Row) → so_far ++ left ≡ all → left ≡ [] → so_far ≡ all
no_more so_far left all joined none = sym (append-nil so_far) ∙ ap (λ (l : List Row). so_far ++ l) (sym none) ∙ joined
