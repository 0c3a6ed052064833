-- The best of the orders of a run, one entry at a time.
use Rattle.std.proofs.Common.{◌≡◌, ℕ, ◌+◌, ◌-◌, ◌*◌, ◌/◌, ◌<◌, ⊎_elim, true, false, List, [], ◌∷◌, ◌++◌, length, sum, Contains, get_or, slice_get, Option, Some, Less, Equal, Greater, Ordering, is_lt, nat_cmp, sum_by, sym, refl, ap, ap₂, ◌∙◌, subst, arith}
use Rattle.std.specs.Cmp.{IsStrictWeakOrder}
use Rattle.std.specs.Cmp.Lexicographic.{slice_cmp}
use Rattle.std.specs.Ordering.{ordering_then}
use Rattle.std.proofs.lemmas.List.Elements.{Contains-append_cases}
use Rattle.std.proofs.lemmas.List.MinMax.{ranks_by}
use Rattle.std.proofs.lemmas.List.Sums.{sum_by-cons}
use Rattle.std.proofs.lemmas.Option.{slice_get_read}
use Rattle.chew_spec_dictionary.specs.Look.{Interval}
use Rattle.chew_spec_phrasing.specs.Best.{IsBest, segmentation_cmp}
use Rattle.chew_spec_phrasing.specs.Score.{gain, loss}
use Rattle.chew_spec_phrasing.specs.Segmentation.{IsSegmentation, freqs, lengths}
use Rattle.chew_spec_phrasing.specs.Usable.{Piece}
use Rattle.chew_spec_phrasing.proofs.Best.{segmentation_cmp_total}
use Rattle.chew_spec_phrasing.proofs.Greatest.{not_above_itself}
use Rattle.chew_spec_phrasing.proofs.Membership.{Contains-single}
use Rattle.chew_spec_phrasing.proofs.Pieces.{IsSegmentation-unique}
use Rattle.chew_phrasing.specs.Table.{Entry, GivesPieces, IsLevel, IsOfRun, IsTable, IsTop, Leads, Stands, weights}
use Rattle.chew_phrasing.proofs.Counting.{sum-counts_of}
use Rattle.chew_phrasing.proofs.Stands.{lengths_within, no_worse}
use Rattle.chew_phrasing.proofs.Walking.{next_unique}

-- an entry leads to the same lengths always
Leads-unique : (levels : List (List Entry)) (left : ℕ) (entry : Entry) (mine yours : List Piece) → Leads levels left entry mine → Leads levels left entry yours → lengths mine ≡ lengths yours
Leads-unique levels left entry [] [] h i = refl
Leads-unique levels left entry (m ∷ mine) [] h i = absurd (let on = h.1.1 in let a = on.from_one in let b = on.within in omega arith)
Leads-unique levels left entry [] (y ∷ yours) h i = absurd (let on = i.1.1 in let a = on.from_one in let b = on.within in omega arith)
Leads-unique levels left entry (m ∷ mine) (y ∷ yours) h i =
    let same = next_unique levels left entry h.1.0 i.1.0 h.1.1 i.1.1 in
    ap₂ (λ a b. a ∷ b) (h.0 ∙ sym i.0) (Leads-unique levels (left - entry.len) i.1.0 mine yours (subst (λ e. Leads levels (left - entry.len) e mine) same h.1.2) i.1.2)

-- and so it stands for one order
pub Stands-unique : (usable : Interval → Option Piece) (levels : List (List Entry)) (n left : ℕ) (entry : Entry) (mine yours : List Piece) → Stands usable levels n left entry mine → Stands usable levels n left entry yours → mine ≡ yours
Stands-unique usable levels n left entry mine yours h i =
    IsSegmentation-unique usable (n - left) left mine yours h.is_one i.is_one (Leads-unique levels left entry mine yours h.leads i.leads)

not_less : (pieces other : List Piece) → pieces ≡ other → is_lt (segmentation_cmp pieces other) ≡ false
not_less pieces other e = subst (λ p. is_lt (segmentation_cmp pieces p) ≡ false) e (not_above_itself segmentation_cmp segmentation_cmp_total pieces)

one_way : (best other : List Piece) → is_lt (segmentation_cmp best other) ≡ true → is_lt (segmentation_cmp other best) ≡ false
one_way best other h =
    let order : IsStrictWeakOrder (λ x y. is_lt (segmentation_cmp x y)) = ranks_by segmentation_cmp_total (λ x. x) in
    order.one_way best other h

module _ (usable : Interval → Option Piece) (levels : List (List Entry)) (n : ℕ) where
  -- of no entries any is at the top
  pub IsTop-none : (best : Entry) → IsTop usable levels n [] best
  IsTop-none best = record { unbeaten = λ entry i. absurd (omega (arith, i.1)) }

  -- an entry that doesn't beat the best
  pub IsTop-kept : (seen : List Entry) (best entry result : Entry) → result ≡ best → ((mine yours : List Piece) → Stands usable levels n n best mine → Stands usable levels n n entry yours → is_lt (segmentation_cmp mine yours) ≡ false)
      → IsTop usable levels n seen best → IsTop usable levels n (seen ++ (entry ∷ [])) result
  IsTop-kept seen best entry result is lower h =
      subst (IsTop usable levels n (seen ++ (entry ∷ []))) (sym is)
      (record {
        unbeaten = λ other i mine yours a b. ⊎_elim
            (λ old. h.unbeaten other old mine yours a b)
            (λ new. lower mine yours a (subst (λ e. Stands usable levels n n e yours) (sym (Contains-single entry other new)) b))
            (Contains-append_cases seen (entry ∷ []) other i);
      })

  -- one that does
  pub IsTop-taken : (seen : List Entry) (best entry result : Entry) → result ≡ entry → IsOfRun usable levels n best → ((mine yours : List Piece) → Stands usable levels n n best mine → Stands usable levels n n entry yours → is_lt (segmentation_cmp mine yours) ≡ true)
      → IsTop usable levels n seen best → IsTop usable levels n (seen ++ (entry ∷ [])) result
  IsTop-taken seen best entry result is run higher h =
      subst (IsTop usable levels n (seen ++ (entry ∷ []))) (sym is)
      (record {
        unbeaten = λ other i mine yours a b. ⊎_elim
            (λ old. no_worse mine run.order yours (one_way run.order mine (higher run.order mine run.stands a)) (h.unbeaten other old run.order yours run.stands b))
            (λ new. not_less mine yours (Stands-unique usable levels n n entry mine yours a (subst (λ e. Stands usable levels n n e yours) (sym (Contains-single entry other new)) b)))
            (Contains-append_cases seen (entry ∷ []) other i);
      })

  -- the best of all entries is the best segmentation
  pub IsBest-from_IsTop : (level : List Entry) (best : Entry) (order : List Piece) → IsLevel usable levels n n level → IsTop usable levels n level best → Stands usable levels n n best order → IsBest usable n order
  IsBest-from_IsTop level best order h t s = record {
    is_one = subst (λ k. IsSegmentation usable k n order) (let e : n - n ≡ 0 = omega arith in e) s.is_one;
    unbeaten = λ other one.
        let c = h.covers other (subst (λ k. IsSegmentation usable k n other) (let e : 0 ≡ n - n = omega arith in e) one) in
        no_worse order c.order other (t.unbeaten c.entry c.among order c.order s c.stands) c.unbeaten;
  }

  -- what an entry of the run gains and loses
  pub record Scored (entry : Entry) (order : List Piece) : Type 0 where
    pub some : 0 < sum entry.counts
    pub gains : gain (lengths order) (freqs order) ≡ 1000 * n + 1000 * (6 * n / sum entry.counts) + entry.freq
    pub loses : loss (lengths order) ≡ 100 * entry.spread

  pub scored : GivesPieces usable → (entry : Entry) (order : List Piece) → 0 < n → Stands usable levels n n entry order → Scored entry order
  scored fit entry order some h =
      let whole : sum (lengths order) ≡ n = h.is_one.adds_up.whole in
      let count : sum entry.counts ≡ length (lengths order) =
      ap sum h.counts ∙ (sum-counts_of (lengths order) (lengths_within usable fit (n - n) n order h.is_one) ∙ sym (ones (lengths order))) in
      record {
        some = subst (λ k. 0 < k) (sym count) (not_none order whole);
        gains = gains_by (sum (lengths order)) (length (lengths order)) (weights order) n (sum entry.counts) entry.freq whole (sym count) (sym h.freq);
        loses = ap (λ s. 100 * s) (sym h.spread);
      }
    where
      ones : (lens : List ℕ) → length lens ≡ sum_by (λ len. 1) lens
      ones [] = refl
      ones (len ∷ lens) = let rest = ones lens in omega (arith, sum_by-cons (λ x. 1) len lens)

      not_none : (pieces : List Piece) → sum (lengths pieces) ≡ n → 0 < length (lengths pieces)
      not_none [] e = absurd (omega arith)
      not_none (piece ∷ pieces) e = omega arith

      gains_by : (a b c p q r : ℕ) → a ≡ p → b ≡ q → c ≡ r → 1000 * a + 1000 * (6 * a / b) + c ≡ 1000 * p + 1000 * (6 * p / q) + r
      gains_by a b c p q r e f g = ap₂ (λ x y. 1000 * x + 1000 * (6 * x / y) + c) e f ∙ ap (λ z. 1000 * p + 1000 * (6 * p / q) + z) g

-- the scores decide, and then the lengths
pub scores_decide : (mine yours : List Piece) (score other : ℕ) (first last : Ordering) → score ≡ gain (lengths mine) (freqs mine) + loss (lengths yours) → other ≡ gain (lengths yours) (freqs yours) + loss (lengths mine)
    → first ≡ nat_cmp score other → last ≡ slice_cmp nat_cmp (lengths mine) (lengths yours) → ordering_then first last ≡ segmentation_cmp mine yours
scores_decide mine yours score other first last e f is last_is =
    ap₂ (λ a b. ordering_then a b) (is ∙ ap₂ nat_cmp e f) last_is

-- unequal scores decide alone
pub unequal_decides : (first last : Ordering) → (first ≡ Equal → ⊥) → ordering_then first last ≡ first
unequal_decides Less last differ = refl
unequal_decides Equal last differ = absurd (differ refl)
unequal_decides Greater last differ = refl

-- a score from what the numbers of two entries are
pub score_is : (usable : Interval → Option Piece) (levels : List (List Entry)) (n syllables gains loses : ℕ) (entry other : Entry) (mine yours : List Piece) → syllables ≡ n
    → gains ≡ 1000 * syllables + 1000 * (6 * syllables / sum entry.counts) + entry.freq → loses ≡ 100 * other.spread
    → Scored usable levels n entry mine → Scored usable levels n other yours → gains + loses ≡ gain (lengths mine) (freqs mine) + loss (lengths yours)
score_is usable levels n syllables gains loses entry other mine yours same g l a b =
    ap₂ (λ x y. x + y)
    (g ∙ (ap (λ k. 1000 * k + 1000 * (6 * k / sum entry.counts) + entry.freq) same ∙ sym a.gains))
    (l ∙ sym b.loses)

-- an entry of a whole level stands for an order of the run
pub run_entry : (usable : Interval → Option Piece) (levels : List (List Entry)) (n : ℕ) (level : List Entry) (entry : Entry) → IsLevel usable levels n n level → Contains level entry → IsOfRun usable levels n entry
run_entry usable levels n level entry h i = let o = h.each entry i in record { order = o.0; stands = o.1; small = h.small entry i }

-- where there is a segmentation, there is an entry
pub some_entry : (usable : Interval → Option Piece) (levels : List (List Entry)) (n : ℕ) (level : List Entry) (order : List Piece) → IsLevel usable levels n n level → IsSegmentation usable 0 n order → 0 < length level
some_entry usable levels n level order h one =
    let c = h.covers order (subst (λ k. IsSegmentation usable k n order) (let e : 0 ≡ n - n = omega arith in e) one) in
    omega (arith, c.among.1)

-- the last level
pub last_level : (usable : Interval → Option Piece) (levels : List (List Entry)) (n cells : ℕ) (level entries : List Entry) → length levels ≡ n + 1 → cells ≡ n → level ≡ get_or levels cells level → entries ≡ level → IsTable usable n levels → IsLevel usable levels n n entries
last_level usable levels n cells level entries whole same is e h =
    subst (IsLevel usable levels n n) (sym e)
    (h.each n level (subst (λ k. slice_get levels k ≡ Some level) same (slice_get_read levels (length levels) cells level (λ i. length levels) (omega arith) is)))
