-- Sums of lengths.
use Rattle.std.proofs.Common.{ℕ, ◌≤◌, List, [], ◌∷◌, length, sum, All, arith}
use Rattle.std.proofs.lemmas.List.Elements.{All-head, All-tail}
use Rattle.chew_spec_phrasing.proofs.Lengths.{sum-cons}

-- a length of a piece
abbrev pub IsLength : ℕ → Type 0
IsLength len = (1 ≤ len) × (len ≤ 11)

-- lengths from 1 are no more than their sum
pub length-le-sum : (lens : List ℕ) → All IsLength lens → length lens ≤ sum lens
length-le-sum [] h = omega arith
length-le-sum (len ∷ lens) h =
    let first : 1 ≤ len = (All-head IsLength len lens h).0 in
    let rest = length-le-sum lens (All-tail IsLength len lens h) in
    let whole = sum-cons len lens in
    omega arith
