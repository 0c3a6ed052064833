-- How many pieces of a segmentation have each length.
use Rattle.std.specs.Prelude.{ℕ, suc, ◌+◌, ◌-◌, ◌*◌, List, [], ◌∷◌, slice_index, slice_set}

-- no pieces: none of 1 syllable, and none of each number up to 11
abbrev pub no_counts : List ℕ
no_counts = 0 ∷ 0 ∷ 0 ∷ 0 ∷ 0 ∷ 0 ∷ 0 ∷ 0 ∷ 0 ∷ 0 ∷ 0 ∷ []

-- one piece more, of a length from 1 to 11
abbrev pub one_more : ℕ → List ℕ → List ℕ
one_more len counts = slice_set counts (len - 1) (slice_index counts (len - 1) + 1)

-- how many of these lengths are 1, 2 and so on up to 11
abbrev pub counts_of : List ℕ → List ℕ
counts_of [] = no_counts
counts_of (len ∷ lens) = one_more len (counts_of lens)

-- the sum of f over the lengths that are counted, where the first count is that of this length
abbrev pub sum_over : (ℕ → ℕ) → ℕ → List ℕ → ℕ
sum_over f len [] = 0
sum_over f len (count ∷ counts) = count * f len + sum_over f (suc len) counts
