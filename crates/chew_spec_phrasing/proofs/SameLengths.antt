-- Of pieces with the same lengths in some order, the better ones stay better behind any others.
use Rattle.std.proofs.Common.{◌≡◌, ℕ, ◌+◌, ◌*◌, ◌/◌, List, [], ◌∷◌, ◌++◌, length, zip, sum, sum_by, nat_cmp, sym, refl, ap, ap₂, ◌∙◌, subst₂, arith}
use Rattle.std.specs.Cmp.Lexicographic.{slice_cmp}
use Rattle.std.specs.Ordering.{ordering_then}
use Rattle.std.proofs.lemmas.Bool.Decides.{nat_tests}
use Rattle.std.proofs.lemmas.List.{map-append}
use Rattle.std.proofs.lemmas.List.Sums.{sum_by-cons}
use Rattle.chew_spec_phrasing.specs.Best.{score_cmp, segmentation_cmp}
use Rattle.chew_spec_phrasing.specs.Score.{difference, loss, spread, weight}
use Rattle.chew_spec_phrasing.specs.Segmentation.{freqs, lengths}
use Rattle.chew_spec_phrasing.specs.Usable.{Piece, phrase_len}
use Rattle.chew_spec_phrasing.proofs.Best.{slice_cmp-append}
use Rattle.chew_spec_phrasing.proofs.Sorted.{IsAlike, IsAlike-append}

sums_alike : {X : Type 0} (f g : X → ℕ) → ((x : X) → f x ≡ g x) → (xs : List X) → sum_by f xs ≡ sum_by g xs
sums_alike f g same [] = refl
sums_alike f g same (x ∷ xs) =
    sum_by-cons f x xs ∙ (ap₂ (λ a b. a + b) (same x) (sums_alike f g same xs) ∙ sym (sum_by-cons g x xs))

sum_of_sums : {X : Type 0} (f g : X → ℕ) (xs : List X) → sum_by (λ x. f x + g x) xs ≡ sum_by f xs + sum_by g xs
sum_of_sums f g [] = refl
sum_of_sums f g (x ∷ xs) =
    let rest = sum_of_sums f g xs in
    omega (arith, sum_by-cons (λ y. f y + g y) x xs, sum_by-cons f x xs, sum_by-cons g x xs)

difference_back : (x y : ℕ) → difference x y ≡ difference y x
difference_back x y = omega arith

-- the differences over all ordered pairs are twice those over the pairs
twice_spread : (xs : List ℕ) → sum_by (λ x. sum_by (difference x) xs) xs ≡ spread xs + spread xs
twice_spread [] = refl
twice_spread (z ∷ zs) =
    let rest = twice_spread zs in
    let own : difference z z ≡ 0 = omega arith in
    let parts : sum_by (λ x. sum_by (difference x) (z ∷ zs)) zs ≡ sum_by (difference z) zs + sum_by (λ x. sum_by (difference x) zs) zs =
    sums_alike (λ x. sum_by (difference x) (z ∷ zs)) (λ x. difference z x + sum_by (difference x) zs)
    (λ x. sum_by-cons (difference x) z zs ∙ ap (λ k. k + sum_by (difference x) zs) (difference_back x z)) zs
    ∙ sum_of_sums (difference z) (λ x. sum_by (difference x) zs) zs in
    omega (arith, sum_by-cons (λ x. sum_by (difference x) (z ∷ zs)) z zs, sum_by-cons (difference z) z zs)

-- lengths in another order have the same differences
pub spread-IsAlike : (xs ys : List ℕ) → IsAlike xs ys → spread xs ≡ spread ys
spread-IsAlike xs ys h =
    let same : sum_by (λ x. sum_by (difference x) xs) xs ≡ sum_by (λ x. sum_by (difference x) ys) ys =
    sums_alike (λ x. sum_by (difference x) xs) (λ x. sum_by (difference x) ys) (λ x. h.sums (difference x)) xs
    ∙ h.sums (λ x. sum_by (difference x) ys) in
    omega (arith, twice_spread xs, twice_spread ys)

length_sum : {X : Type 0} (xs : List X) → length xs ≡ sum_by (λ x. 1) xs
length_sum [] = refl
length_sum (x ∷ xs) = let rest = length_sum xs in omega (arith, sum_by-cons (λ y. 1) x xs)

-- what the frequencies of pieces count
abbrev pub weights : List Piece → ℕ
weights pieces = sum_by weight (zip (lengths pieces) (freqs pieces))

weights-append : (before pieces : List Piece) → weights (before ++ pieces) ≡ weights before + weights pieces
weights-append [] pieces = omega arith
weights-append (piece ∷ before) pieces =
    let rest = weights-append before pieces in
    omega (
      arith,
      sum_by-cons weight (phrase_len piece.phrase, piece.freq) (zip (lengths (before ++ pieces)) (freqs (before ++ pieces))),
      sum_by-cons weight (phrase_len piece.phrase, piece.freq) (zip (lengths before) (freqs before)),
    )

-- what the lengths alone gain
abbrev gain_of_lengths : List ℕ → ℕ
gain_of_lengths lens = 1000 * sum lens + 1000 * (6 * sum lens / length lens)

gain-IsAlike : (xs ys : List ℕ) → IsAlike xs ys → gain_of_lengths xs ≡ gain_of_lengths ys
gain-IsAlike xs ys h =
    ap₂ (λ total count. 1000 * total + 1000 * (6 * total / count)) (h.sums (λ x. x))
    (length_sum xs ∙ (h.sums (λ x. 1) ∙ sym (length_sum ys)))

by_weights : (a b g h k l : ℕ) → g ≡ h → k ≡ l → nat_cmp (g + a + l) (h + b + k) ≡ nat_cmp a b
by_weights a b g h k l e f = grind (arith, nat_tests)

-- pieces with the same lengths in some order are compared by their frequencies
pub score_cmp-IsAlike : (pieces other : List Piece) → IsAlike (lengths pieces) (lengths other) → score_cmp pieces other ≡ nat_cmp (weights pieces) (weights other)
score_cmp-IsAlike pieces other h =
    by_weights (weights pieces) (weights other) (gain_of_lengths (lengths pieces)) (gain_of_lengths (lengths other)) (loss (lengths pieces)) (loss (lengths other))
    (gain-IsAlike (lengths pieces) (lengths other) h)
    (ap (λ s. 100 * s) (spread-IsAlike (lengths pieces) (lengths other) h))

more_weight : (w a b : ℕ) → nat_cmp (w + a) (w + b) ≡ nat_cmp a b
more_weight w a b = grind (arith, nat_tests)

-- and behind others as by themselves
pub segmentation_cmp-behind : (before pieces other : List Piece) → IsAlike (lengths pieces) (lengths other) → segmentation_cmp (before ++ pieces) (before ++ other) ≡ segmentation_cmp pieces other
segmentation_cmp-behind before pieces other h =
    let front = lengths before in
    let joined = map-append (λ (piece : Piece). phrase_len piece.phrase) before pieces in
    let other_joined = map-append (λ (piece : Piece). phrase_len piece.phrase) before other in
    let whole : IsAlike (lengths (before ++ pieces)) (lengths (before ++ other)) =
    subst₂ IsAlike (sym joined) (sym other_joined) (IsAlike-append front front (lengths pieces) (lengths other) (record { sums = λ f. refl }) h) in
    ap₂ ordering_then
    (score_cmp-IsAlike (before ++ pieces) (before ++ other) whole
    ∙ (ap₂ nat_cmp (weights-append before pieces) (weights-append before other)
    ∙ (more_weight (weights before) (weights pieces) (weights other) ∙ sym (score_cmp-IsAlike pieces other h))))
    (ap₂ (slice_cmp nat_cmp) joined other_joined ∙ slice_cmp-append front (lengths pieces) (lengths other))
