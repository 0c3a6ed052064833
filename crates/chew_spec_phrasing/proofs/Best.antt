-- The best segmentation is one, no other exceeds it, and there is no other like it.
use Rattle.std.proofs.Common.{◌≡◌, ℕ, ◌+◌, ◌≤◌, false, List, [], ◌∷◌, ◌++◌, Option, Some, None, Ordering, Less, Equal, Greater, is_lt, is_eq, nat_cmp, true≢false, sym, refl, ap, ap₂, ◌∙◌, arith}
use Rattle.std.specs.Cmp.{IsTotalOrder}
use Rattle.std.specs.Cmp.Lexicographic.{slice_cmp}
use Rattle.std.specs.List.{reduce}
use Rattle.std.specs.Ordering.{ordering_then}
use Rattle.std.proofs.lemmas.Bool.Decides.{nat_tests}
use Rattle.std.proofs.lemmas.Cmp.{nat_cmp_total, nat_list_cmp_total, on_total, then_total, tied_itself}
use Rattle.std.proofs.lemmas.Map.Text.{is_eq-slice_cmp}
use Rattle.std.proofs.lemmas.Slice.Eq.{bytes_eq-Decides}
use Rattle.chew_spec_dictionary.specs.Call.{Hit}
use Rattle.chew_spec_dictionary.specs.Look.{Interval}
use Rattle.chew_spec_phrasing.specs.Best.{IsBest, best_of, better, score_cmp, segmentation_cmp}
use Rattle.chew_spec_phrasing.specs.Score.{gain, loss}
use Rattle.chew_spec_phrasing.specs.Segmentation.{GivesOwn, IsSegmentation, freqs, lengths, segmentations}
use Rattle.chew_spec_phrasing.specs.Usable.{Choice, Piece, piece_at}
use Rattle.chew_spec_phrasing.proofs.Greatest.{IsGreatest-from_reduce, nothing_from_reduce, tied_from_both}
use Rattle.chew_spec_phrasing.proofs.Pieces.{Contains-segmentations, IsSegmentation-from_segmentations, IsSegmentation-unique}

difference_trans : (a b c d e f : ℕ) → nat_cmp (a + d) (c + b) ≡ Less → nat_cmp (c + f) (e + d) ≡ Less → nat_cmp (a + f) (e + b) ≡ Less
difference_trans a b c d e f h i = grind (arith, nat_tests)

difference_congr : (a b c d e f : ℕ) → nat_cmp (a + d) (c + b) ≡ Equal → nat_cmp (a + f) (e + b) ≡ nat_cmp (c + f) (e + d)
difference_congr a b c d e f h = grind (arith, nat_tests)

-- the order by score is a total one
pub score_cmp_total : IsTotalOrder score_cmp
score_cmp_total = record {
  antisymm = λ x y. nat_cmp_total.antisymm (gain (lengths x) (freqs x) + loss (lengths y)) (gain (lengths y) (freqs y) + loss (lengths x));
  trans = λ x y z. difference_trans (gain (lengths x) (freqs x)) (loss (lengths x)) (gain (lengths y) (freqs y)) (loss (lengths y)) (gain (lengths z) (freqs z)) (loss (lengths z));
  congr = λ x y z. difference_congr (gain (lengths x) (freqs x)) (loss (lengths x)) (gain (lengths y) (freqs y)) (loss (lengths y)) (gain (lengths z) (freqs z)) (loss (lengths z));
}

-- and so is the order by score, then by lengths
pub segmentation_cmp_total : IsTotalOrder segmentation_cmp
segmentation_cmp_total = then_total score_cmp_total (on_total lengths nat_list_cmp_total)

pub then_equal : (p q : Ordering) → ordering_then p q ≡ Equal → q ≡ Equal
then_equal Less q e = absurd cc
then_equal Equal q e = e
then_equal Greater q e = absurd cc

-- pieces that tie have the same lengths
pub lengths-tied : (pieces other : List Piece) → segmentation_cmp pieces other ≡ Equal → lengths pieces ≡ lengths other
lengths-tied pieces other e =
    let tied = then_equal (score_cmp pieces other) (slice_cmp nat_cmp (lengths pieces) (lengths other)) e in
    (bytes_eq-Decides (lengths pieces) (lengths other)).0
    (sym (is_eq-slice_cmp (lengths pieces) (lengths other)) ∙ ap is_eq tied)

-- two that no other exceeds are one
pub IsBest-unique : (usable : Interval → Option Piece) (n : ℕ) (best other : List Piece) → IsBest usable n best → IsBest usable n other → best ≡ other
IsBest-unique usable n best other h i =
    IsSegmentation-unique usable 0 n best other h.is_one i.is_one
    (lengths-tied best other (tied_from_both segmentation_cmp segmentation_cmp_total best other (h.unbeaten other i.is_one) (i.unbeaten best h.is_one)))

reduced_best : (usable : Interval → Option Piece) (n : ℕ) (best : List Piece) → GivesOwn usable → reduce better (segmentations usable n) ≡ Some best → IsBest usable n best
reduced_best usable n best own e =
    let top = IsGreatest-from_reduce segmentation_cmp segmentation_cmp_total (segmentations usable n) best e in
    record {
      is_one = IsSegmentation-from_segmentations usable own n best top.among;
      unbeaten = λ other i. top.unbeaten other (Contains-segmentations usable n other i);
    }

-- what `best_of` gives is the best
pub IsBest-from_best_of : (rows : List Hit) (breaks : List ℕ) (choices : List Choice) (n : ℕ) (best : List Piece) → GivesOwn (piece_at rows breaks choices) → best_of rows breaks choices n ≡ Some best → IsBest (piece_at rows breaks choices) n best
unfolding best_of
IsBest-from_best_of rows breaks choices n best own e = reduced_best (piece_at rows breaks choices) n best own e

-- where it gives nothing, there is no segmentation
pub no_segmentation-from_best_of : (rows : List Hit) (breaks : List ℕ) (choices : List Choice) (n : ℕ) (pieces : List Piece) → best_of rows breaks choices n ≡ None → IsSegmentation (piece_at rows breaks choices) 0 n pieces → ⊥
unfolding best_of
no_segmentation-from_best_of rows breaks choices n pieces e h =
    nothing_from_reduce better (segmentations (piece_at rows breaks choices) n) pieces e (Contains-segmentations (piece_at rows breaks choices) n pieces h)

-- it is what `best_of` gives
pub best_of-from_IsBest : (rows : List Hit) (breaks : List ℕ) (choices : List Choice) (n : ℕ) (best : List Piece) → GivesOwn (piece_at rows breaks choices) → IsBest (piece_at rows breaks choices) n best → best_of rows breaks choices n ≡ Some best
best_of-from_IsBest rows breaks choices n best own h = by_answer (best_of rows breaks choices n) refl
  where
    by_answer : (o : Option (List Piece)) → best_of rows breaks choices n ≡ o → o ≡ Some best
    by_answer None e = absurd (no_segmentation-from_best_of rows breaks choices n best e h.is_one)
    by_answer (Some found) e =
        ap Some (IsBest-unique (piece_at rows breaks choices) n found best (IsBest-from_best_of rows breaks choices n found own e) h)

-- where no pieces are a segmentation, it gives nothing
pub best_of-from_none : (rows : List Hit) (breaks : List ℕ) (choices : List Choice) (n : ℕ) → GivesOwn (piece_at rows breaks choices) → ((pieces : List Piece) → IsSegmentation (piece_at rows breaks choices) 0 n pieces → ⊥) → best_of rows breaks choices n ≡ None
best_of-from_none rows breaks choices n own h = by_answer (best_of rows breaks choices n) refl
  where
    by_answer : (o : Option (List Piece)) → best_of rows breaks choices n ≡ o → o ≡ None
    by_answer None e = refl
    by_answer (Some found) e = absurd (h found (IsBest-from_best_of rows breaks choices n found own e).is_one)

score_from_order : (p q : ℕ) (o : Ordering) → is_lt (ordering_then (nat_cmp p q) o) ≡ false → q ≤ p
score_from_order p q o h = by_value (nat_cmp p q) refl h
  where
    by_value : (r : Ordering) → nat_cmp p q ≡ r → is_lt (ordering_then r o) ≡ false → q ≤ p
    by_value Less e i = absurd (true≢false i)
    by_value Equal e i = grind (arith, nat_tests)
    by_value Greater e i = grind (arith, nat_tests)

-- no segmentation has a greater score than the best
pub score-IsBest : (usable : Interval → Option Piece) (n : ℕ) (best other : List Piece) → IsBest usable n best → IsSegmentation usable 0 n other → gain (lengths other) (freqs other) + loss (lengths best) ≤ gain (lengths best) (freqs best) + loss (lengths other)
score-IsBest usable n best other h i =
    score_from_order (gain (lengths best) (freqs best) + loss (lengths other)) (gain (lengths other) (freqs other) + loss (lengths best))
    (slice_cmp nat_cmp (lengths best) (lengths other)) (h.unbeaten other i)

nat_cmp_itself : (x : ℕ) → nat_cmp x x ≡ Equal
nat_cmp_itself x = tied_itself nat_cmp_total x

-- a common front does not count
pub slice_cmp-append : (before xs ys : List ℕ) → slice_cmp nat_cmp (before ++ xs) (before ++ ys) ≡ slice_cmp nat_cmp xs ys
slice_cmp-append [] xs ys = refl
slice_cmp-append (x ∷ before) xs ys =
    ap (λ o. ordering_then o (slice_cmp nat_cmp (before ++ xs) (before ++ ys))) (nat_cmp_itself x) ∙ slice_cmp-append before xs ys

-- of those with its score, the best is longer at the first lengths that differ
pub longer-IsBest : (usable : Interval → Option Piece) (n : ℕ) (best other : List Piece) (before : List ℕ) (len other_len : ℕ) (rest other_rest : List ℕ) → IsBest usable n best → IsSegmentation usable 0 n other → score_cmp best other ≡ Equal → lengths best ≡ before ++ (len ∷ rest) → lengths other ≡ before ++ (other_len ∷ other_rest) → other_len ≤ len
longer-IsBest usable n best other before len other_len rest other_rest h i tied is other_is =
    score_from_order len other_len (slice_cmp nat_cmp rest other_rest)
    (sym (ap is_lt (ap₂ (λ o p. ordering_then o p) tied
    (ap₂ (slice_cmp nat_cmp) is other_is ∙ slice_cmp-append before (len ∷ rest) (other_len ∷ other_rest)))) ∙ h.unbeaten other i)
