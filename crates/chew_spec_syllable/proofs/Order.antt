-- Image order is a total order of rows, which are equal in it exactly where they are of one pair.
use Rattle.std.proofs.Common.{◌≡◌, ℕ, List, [], ◌∷◌, ◌++◌, length, take, drop, refl, sym, ap, ◌∙◌, arith}
use Rattle.std.specs.Cmp.{IsTotalOrder}
use Rattle.std.specs.Cmp.Lexicographic.{slice_cmp}
use Rattle.std.specs.declared.cmp.Ordering.{Ordering}
use Rattle.std.specs.Ordering.{nat_cmp, ordering_then}
use Rattle.std.specs.declared.cmp.Ordering.TheVariants.{Less, Equal, Greater}
use Rattle.std.specs.FinMap.{slice_cmp-IsAntisymmetric, nat_cmp-IsAntisymmetric}
use Rattle.std.proofs.lemmas.Cmp.{nat_list_cmp_total, on_total, tied_itself}
use Rattle.std.proofs.Math.Seq.{take-append_seam, drop-append_seam}
use Rattle.chew_spec_syllable.specs.Row.{Row, image_rank, image_cmp}

-- two lists and two more of like lengths, joined
split_first : (xs ys xs' ys' : List ℕ) → length xs ≡ length xs' → xs ++ ys ≡ xs' ++ ys' → xs ≡ xs'
split_first xs ys xs' ys' e h =
    sym (take-append_seam xs ys) ∙ ap (λ zs. take (length xs) zs) h ∙ ap (λ n. take n (xs' ++ ys')) e ∙ take-append_seam xs' ys'

-- their rests are equal
split_second : (xs ys xs' ys' : List ℕ) → length xs ≡ length xs' → xs ++ ys ≡ xs' ++ ys' → ys ≡ ys'
split_second xs ys xs' ys' e h =
    sym (drop-append_seam xs ys) ∙ ap (λ zs. drop (length xs) zs) h ∙ ap (λ n. drop n (xs' ++ ys')) e ∙ drop-append_seam xs' ys'

-- equal lists have equal heads
head_same : (x y : ℕ) (xs ys : List ℕ) → x ∷ xs ≡ y ∷ ys → x ≡ y
head_same x y xs ys h = cc

-- and equal tails
tail_same : (x y : ℕ) (xs ys : List ℕ) → x ∷ xs ≡ y ∷ ys → xs ≡ ys
tail_same x y xs ys h = cc

-- rows that are equal in image order are of one pair
pub equal_pair : (a b : Row) → image_cmp a b ≡ Equal → (a.key ≡ b.key) × (a.phrase ≡ b.phrase)
equal_pair a b h =
    let e = slice_cmp-IsAntisymmetric nat_cmp-IsAntisymmetric _ _ h in
    let n = head_same _ _ _ _ e in
    let j = tail_same _ _ _ _ e in
    (split_first a.key a.phrase b.key b.phrase n j, split_second a.key a.phrase b.key b.phrase n j)

-- and rows of one pair are equal in it
pub pair_equal : (a b : Row) → a.key ≡ b.key → a.phrase ≡ b.phrase → image_cmp a b ≡ Equal
pair_equal a b k p =
    ap (λ key. slice_cmp nat_cmp (image_rank a.key a.phrase) (image_rank key b.phrase)) (sym k)
    ∙ (ap (λ phrase. slice_cmp nat_cmp (image_rank a.key a.phrase) (image_rank a.key phrase)) (sym p)
    ∙ tied_itself nat_list_cmp_total (image_rank a.key a.phrase))

-- image order is one of lists of numbers
pub image_order : IsTotalOrder image_cmp
image_order = on_total (λ (row : Row). image_rank row.key row.phrase) nat_list_cmp_total

-- three orders, one after another
then_first : (o p q : Ordering) → ordering_then o (ordering_then p q) ≡ ordering_then (ordering_then o p) q
then_first Less p q = refl
then_first Equal p q = refl
then_first Greater p q = refl

-- two lists that begin with lists of one length are ordered by these, and then by what follows
by_fronts : (xs ys xs' ys' : List ℕ) → length xs ≡ length xs'
    → slice_cmp nat_cmp (xs ++ ys) (xs' ++ ys') ≡ ordering_then (slice_cmp nat_cmp xs xs') (slice_cmp nat_cmp ys ys')
by_fronts [] ys [] ys' e = refl
by_fronts [] ys (x' ∷ xs') ys' e = absurd (omega arith)
by_fronts (x ∷ xs) ys [] ys' e = absurd (omega arith)
by_fronts (x ∷ xs) ys (x' ∷ xs') ys' e =
    ap (λ o. ordering_then (nat_cmp x x') o) (by_fronts xs ys xs' ys' (omega arith))
    ∙ then_first (nat_cmp x x') (slice_cmp nat_cmp xs xs') (slice_cmp nat_cmp ys ys')

-- where the first decides, what follows is free
by_first : (o p q : Ordering) → (o ≡ Equal → p ≡ q) → ordering_then o p ≡ ordering_then o q
by_first Less p q h = refl
by_first Equal p q h = h refl
by_first Greater p q h = refl

-- image order: the keys' lengths, then their codes, then the phrases' bytes
pub image_is : (a b : Row) → image_cmp a b
    ≡ ordering_then (nat_cmp (length a.key) (length b.key)) (ordering_then (slice_cmp nat_cmp a.key b.key) (slice_cmp nat_cmp a.phrase b.phrase))
image_is a b =
    by_first (nat_cmp (length a.key) (length b.key)) _ _
    (λ e. by_fronts a.key a.phrase b.key b.phrase (nat_cmp-IsAntisymmetric _ _ e))
