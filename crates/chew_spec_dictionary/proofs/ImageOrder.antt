-- Image order is a total order, and only rows of one pair tie.
use Rattle.std.proofs.Common.{◌≡◌, ℕ, true, false, List, [], ◌∷◌, ◌++◌, length, refl, ap, sym, ◌∙◌, ap₂, Ordering, Less, Equal, Greater, nat_cmp, arith}
use Rattle.std.specs.Cmp.{IsTotalOrder}
use Rattle.std.specs.Str.{bytes_eq}
use Rattle.std.specs.Ordering.{ordering_reverse, match_ordering, ordering_then}
use Rattle.std.specs.Cmp.Lexicographic.{slice_cmp}
use Rattle.std.proofs.lemmas.Cmp.{on_total, nat_list_cmp_total, tied_itself, nat_cmp_total}
use Rattle.std.proofs.lemmas.Map.Lookups.{exact_bytes, exact_unsigned}
use Rattle.std.proofs.lemmas.Slice.Eq.{bytes_eq-Decides}
use Rattle.std.proofs.lemmas.Bool.{and_parts, and_from, false_from_ne_true}
use Rattle.chew_spec_syllable.specs.Row.{Row, image_cmp, image_rank, is_pair_of}

-- image order is total
pub image_total : IsTotalOrder image_cmp
image_total = on_total (λ (row : Row). image_rank row.key row.phrase) nat_list_cmp_total

-- a fact on what a comparison picks, from each of its cases
pub by_cases : {X : Type 0} (o : Ordering) (a b c : X) (P : X → Type 0) → (o ≡ Less → P a) → (o ≡ Equal → P b) → (o ≡ Greater → P c) → P (match_ordering o a b c)
by_cases Less a b c P less same more = less refl
by_cases Equal a b c P less same more = same refl
by_cases Greater a b c P less same more = more refl

-- where one is greater, the other is less
pub turned : (x y : Row) → image_cmp x y ≡ Greater → image_cmp y x ≡ Less
turned x y e = image_total.antisymm y x ∙ ap ordering_reverse e

-- equal lists that begin with parts of one length have equal parts
parts_equal : (a b x y : List ℕ) → length a ≡ length b → a ++ x ≡ b ++ y → (a ≡ b) × (x ≡ y)
parts_equal [] [] x y long e = (refl, e)
parts_equal [] (n ∷ b) x y long e = absurd (omega arith)
parts_equal (m ∷ a) [] x y long e = absurd (omega arith)
parts_equal (m ∷ a) (n ∷ b) x y long e =
    let tails : a ++ x ≡ b ++ y = cc in
    let heads : m ≡ n = cc in
    let r = parts_equal a b x y (omega arith) tails in
    ((λ i. heads i ∷ r.0 i), r.1)

-- rows that tie are of one pair
pub tie_is_pair : (x y : Row) → image_cmp x y ≡ Equal → (x.key ≡ y.key) × (x.phrase ≡ y.phrase)
tie_is_pair x y e =
    let ranks : image_rank x.key x.phrase ≡ image_rank y.key y.phrase = exact_bytes _ _ e in
    let long : length x.key ≡ length y.key = cc in
    let rest : x.key ++ x.phrase ≡ y.key ++ y.phrase = cc in
    parts_equal x.key y.key x.phrase y.phrase long rest

-- a row of a pair has its key and its phrase
pub of_pair : (key phrase : List ℕ) (row : Row) → is_pair_of key phrase row ≡ true → (row.key ≡ key) × (row.phrase ≡ phrase)
of_pair key phrase row e =
    let both = and_parts (bytes_eq row.key key) (bytes_eq row.phrase phrase) e in
    ((bytes_eq-Decides row.key key).0 both.0, (bytes_eq-Decides row.phrase phrase).0 both.1)

-- a row that has a key and a phrase is of that pair
pub is_of_pair : (key phrase : List ℕ) (row : Row) → row.key ≡ key → row.phrase ≡ phrase → is_pair_of key phrase row ≡ true
is_of_pair key phrase row k p = and_from _ _ ((bytes_eq-Decides row.key key).1 k) ((bytes_eq-Decides row.phrase phrase).1 p)

-- rows of one pair tie
pub pair_ties : (x y : Row) → is_pair_of x.key x.phrase y ≡ true → image_cmp x y ≡ Equal
pair_ties x y e =
    let both = of_pair x.key x.phrase y e in
    ap₂ (λ (k p : List ℕ). slice_cmp nat_cmp (image_rank x.key x.phrase) (image_rank k p)) both.0 both.1 ∙ tied_itself nat_list_cmp_total (image_rank x.key x.phrase)

-- rows that do not tie are of two pairs
pub apart : (x y : Row) (o : Ordering) → image_cmp x y ≡ o → (o ≡ Equal → ⊥) → is_pair_of x.key x.phrase y ≡ false
apart x y o e other = false_from_ne_true _ (λ p. other (sym e ∙ pair_ties x y p))

-- comparisons one after the other, grouped either way
pub then_assoc : (o p q : Ordering) → ordering_then (ordering_then o p) q ≡ ordering_then o (ordering_then p q)
then_assoc Less p q = refl
then_assoc Equal p q = refl
then_assoc Greater p q = refl

-- lists that begin with parts of one length compare by the parts, then by the rest
by_parts : (a b x y : List ℕ) → length a ≡ length b → slice_cmp nat_cmp (a ++ x) (b ++ y) ≡ ordering_then (slice_cmp nat_cmp a b) (slice_cmp nat_cmp x y)
by_parts [] [] x y long = refl
by_parts [] (n ∷ b) x y long = absurd (omega arith)
by_parts (m ∷ a) [] x y long = absurd (omega arith)
by_parts (m ∷ a) (n ∷ b) x y long = ap (ordering_then (nat_cmp m n)) (by_parts a b x y (omega arith)) ∙ sym (then_assoc (nat_cmp m n) (slice_cmp nat_cmp a b) (slice_cmp nat_cmp x y))

-- image order is by the key's length, then its codes, then the phrase's bytes
pub image_parts : (row other : Row) → image_cmp row other ≡ ordering_then (nat_cmp (length row.key) (length other.key)) (ordering_then (slice_cmp nat_cmp row.key other.key) (slice_cmp nat_cmp row.phrase other.phrase))
image_parts row other = by (nat_cmp (length row.key) (length other.key)) refl
  where
    rest : Ordering
    rest = slice_cmp nat_cmp (row.key ++ row.phrase) (other.key ++ other.phrase)

    parts : Ordering
    parts = ordering_then (slice_cmp nat_cmp row.key other.key) (slice_cmp nat_cmp row.phrase other.phrase)

    by : (o : Ordering) → nat_cmp (length row.key) (length other.key) ≡ o → ordering_then (nat_cmp (length row.key) (length other.key)) (slice_cmp nat_cmp (row.key ++ row.phrase) (other.key ++ other.phrase)) ≡ ordering_then (nat_cmp (length row.key) (length other.key)) (ordering_then (slice_cmp nat_cmp row.key other.key) (slice_cmp nat_cmp row.phrase other.phrase))
    by Less e = rw e refl
    by Equal e = ap (ordering_then (nat_cmp (length row.key) (length other.key))) (by_parts row.key other.key row.phrase other.phrase (exact_unsigned (length row.key) (length other.key) e))
    by Greater e = rw e refl

-- rows of one key compare by their phrases
pub image_of_key : (row other : Row) → row.key ≡ other.key → image_cmp row other ≡ slice_cmp nat_cmp row.phrase other.phrase
image_of_key row other e =
    image_parts row other
    ∙ ap (λ (k : List ℕ). ordering_then (nat_cmp (length row.key) (length k)) (ordering_then (slice_cmp nat_cmp row.key k) (slice_cmp nat_cmp row.phrase other.phrase))) (sym e)
    ∙ ap (λ (o : Ordering). ordering_then o (ordering_then (slice_cmp nat_cmp row.key row.key) (slice_cmp nat_cmp row.phrase other.phrase))) (tied_itself nat_cmp_total (length row.key))
    ∙ ap (λ (o : Ordering). ordering_then o (slice_cmp nat_cmp row.phrase other.phrase)) (tied_itself nat_list_cmp_total row.key)
