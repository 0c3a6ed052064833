-- An entry that stands for pieces: behind a piece more, in a longer table, and beside another of the same lengths.
use Rattle.std.proofs.Common.{◌≡◌, ℕ, zero, suc, ◌+◌, ◌-◌, ◌<◌, ◌≤◌, ⊎_elim, false, List, [], ◌∷◌, ◌++◌, zip, All, slice_get, Option, Some, Equal, Greater, is_lt, nat_cmp, sum_by, sym, refl, ap, ◌∙◌, subst, arith}
use Rattle.std.specs.Cmp.{IsStrictWeakOrder}
use Rattle.std.specs.Cmp.Lexicographic.{slice_cmp}
use Rattle.std.specs.Ordering.{ordering_then}
use Rattle.std.proofs.lemmas.Bool.Decides.{nat_tests}
use Rattle.std.proofs.lemmas.List.Elements.{All-cons, All-nil}
use Rattle.std.proofs.lemmas.List.MinMax.{ranks_by}
use Rattle.std.proofs.lemmas.List.Sums.{sum_by-cons}
use Rattle.std.proofs.lemmas.Option.{none-some}
use Rattle.chew_spec_dictionary.specs.Look.{Interval}
use Rattle.chew_spec_phrasing.specs.Best.{segmentation_cmp}
use Rattle.chew_spec_phrasing.specs.Score.{difference, spread, weight}
use Rattle.chew_spec_phrasing.specs.Segmentation.{AddsUp, IsSegmentation, freqs, lengths}
use Rattle.chew_spec_phrasing.specs.Usable.{Piece, phrase_len}
use Rattle.chew_spec_phrasing.proofs.Best.{segmentation_cmp_total}
use Rattle.chew_spec_phrasing.proofs.Lengths.{AddsUp-rest}
use Rattle.chew_spec_phrasing.proofs.Pieces.{pieces_from-split}
use Rattle.chew_spec_phrasing.proofs.SameLengths.{score_cmp-IsAlike}
use Rattle.chew_spec_phrasing.proofs.Search.{IsSegmentation-cons, IsSegmentation-none}
use Rattle.chew_phrasing.specs.Counts.{counts_of, one_more, sum_over}
use Rattle.chew_phrasing.specs.Merge.{Beats}
use Rattle.chew_phrasing.specs.Table.{Entry, GivesPieces, Leads, Stands, behind, end_of_run, weights}
use Rattle.chew_phrasing.proofs.Counting.{IsAlike-from_counts, IsLength, sum_over-counts_of}

-- the first piece of a segmentation, and what follows it
pub record Parts (usable : Interval → Option Piece) (start n : ℕ) (piece : Piece) (rest : List Piece) : Type 0 where
  pub from_one : 1 ≤ phrase_len piece.phrase
  pub within : phrase_len piece.phrase ≤ n
  pub is_usable : usable (record { start = start; len = phrase_len piece.phrase }) ≡ Some piece
  pub follows : IsSegmentation usable (start + phrase_len piece.phrase) (n - phrase_len piece.phrase) rest

pub parts_of : (usable : Interval → Option Piece) (start n : ℕ) (piece : Piece) (rest : List Piece) → IsSegmentation usable start n (piece ∷ rest) → Parts usable start n piece rest
parts_of usable start n piece rest h =
    let len = phrase_len piece.phrase in
    let after = AddsUp-rest len n (lengths rest) h.adds_up in
    let s = pieces_from-split usable start len (lengths rest) (piece ∷ rest) h.are_usable in
    let joined = s.joined in
    let first : s.piece ≡ piece = cc in
    let others : s.others ≡ rest = cc in
    record {
      from_one = after.0;
      within = omega arith;
      is_usable = s.is_usable ∙ ap Some first;
      follows = record {
        adds_up = subst (λ k. AddsUp k (lengths rest)) (omega arith) after.2;
        are_usable = s.rest ∙ ap Some others;
      };
    }

-- the pieces of a segmentation have 1 to 11 syllables
pub lengths_within : (usable : Interval → Option Piece) → GivesPieces usable → (start n : ℕ) (pieces : List Piece) → IsSegmentation usable start n pieces → All IsLength (lengths pieces)
lengths_within usable fit start n [] h = All-nil IsLength
lengths_within usable fit start n (piece ∷ pieces) h =
    let p = parts_of usable start n piece pieces h in
    All-cons IsLength (phrase_len piece.phrase) (lengths pieces)
    (p.from_one, fit.short (record { start = start; len = phrase_len piece.phrase }) piece p.is_usable)
    (lengths_within usable fit (start + phrase_len piece.phrase) (n - phrase_len piece.phrase) pieces p.follows)

-- at the end of the run stands the order of no lengths
pub Stands-end : (usable : Interval → Option Piece) (levels : List (List Entry)) (n : ℕ) → Stands usable levels n 0 end_of_run []
Stands-end usable levels n = record {
  is_one = IsSegmentation-none usable (n - 0);
  counts = refl;
  freq = refl;
  spread = refl;
  leads = refl;
}

-- one piece more
pub Stands-behind : (usable : Interval → Option Piece) → GivesPieces usable → (levels : List (List Entry)) (n left len place : ℕ) (level : List Entry) (next : Entry) (piece : Piece) (rest : List Piece)
    → 1 ≤ len → len ≤ left → left ≤ n → usable (record { start = n - left; len = len }) ≡ Some piece → slice_get levels (left - len) ≡ Some level → slice_get level place ≡ Some next
    → Stands usable levels n (left - len) next rest → Stands usable levels n left (behind len (weight (len, piece.freq)) place next) (piece ∷ rest)
Stands-behind usable fit levels n left len place level next piece rest one within whole is at among h =
    let same : phrase_len piece.phrase ≡ len = (fit.own.own (record { start = n - left; len = len }) piece is).len in
    let inside = lengths_within usable fit (n - (left - len)) (left - len) rest h.is_one in
    let follows : IsSegmentation usable (n - left + len) (left - len) rest =
    subst (λ k. IsSegmentation usable k (left - len) rest) (let e : n - (left - len) ≡ n - left + len = omega arith in e) h.is_one in
    record {
      is_one = subst (λ k. IsSegmentation usable (n - left) k (piece ∷ rest)) (let e : len + (left - len) ≡ left = omega arith in e)
          (IsSegmentation-cons usable fit.own (n - left) len (left - len) piece rest one is follows);
      counts = ap (one_more len) h.counts ∙ ap (λ k. one_more k (counts_of (lengths rest))) (sym same);
      freq = freq_more same h.freq;
      spread = spread_more same inside h.counts h.spread;
      leads = (same, (next, record { from_one = one; within = within; level = level; is_level = at; is = among }, h.leads));
    }
  where
    freq_more : phrase_len piece.phrase ≡ len → next.freq ≡ weights rest → next.freq + weight (len, piece.freq) ≡ weights (piece ∷ rest)
    freq_more same e =
        let first : weight (phrase_len piece.phrase, piece.freq) ≡ weight (len, piece.freq) = ap (λ k. weight (k, piece.freq)) same in
        let all = sum_by-cons weight (phrase_len piece.phrase, piece.freq) (zip (lengths rest) (freqs rest)) in
        omega arith

    spread_more : phrase_len piece.phrase ≡ len → All IsLength (lengths rest) → next.counts ≡ counts_of (lengths rest) → next.spread ≡ spread (lengths rest)
        → next.spread + sum_over (difference len) 1 next.counts ≡ spread (lengths (piece ∷ rest))
    spread_more same inside counts e =
        let sums : sum_over (difference len) 1 next.counts ≡ sum_by (difference len) (lengths rest) =
        ap (sum_over (difference len) 1) counts ∙ sum_over-counts_of (difference len) (lengths rest) inside in
        let first : sum_by (difference (phrase_len piece.phrase)) (lengths rest) ≡ sum_by (difference len) (lengths rest) =
        ap (λ k. sum_by (difference k) (lengths rest)) same in
        omega arith

slice_get-append : {X : Type 0} (xs ys : List X) (i : ℕ) (x : X) → slice_get xs i ≡ Some x → slice_get (xs ++ ys) i ≡ Some x
slice_get-append [] ys i x e = absurd (none-some x e)
slice_get-append (z ∷ xs) ys zero x e = e
slice_get-append (z ∷ xs) ys (suc i) x e = slice_get-append xs ys i x e

Leads-longer : (levels more : List (List Entry)) (left : ℕ) (entry : Entry) (pieces : List Piece) → Leads levels left entry pieces → Leads (levels ++ more) left entry pieces
Leads-longer levels more left entry [] h = h
Leads-longer levels more left entry (piece ∷ pieces) h =
    let on = h.1.1 in (
      h.0,
      (
        h.1.0,
        record {
          from_one = on.from_one;
          within = on.within;
          level = on.level;
          is_level = slice_get-append levels more (left - entry.len) on.level on.is_level;
          is = on.is;
        },
        Leads-longer levels more (left - entry.len) h.1.0 pieces h.1.2,
      ),
    )

-- more levels change nothing
pub Stands-longer : (usable : Interval → Option Piece) (levels more : List (List Entry)) (n left : ℕ) (entry : Entry) (pieces : List Piece) → Stands usable levels n left entry pieces → Stands usable (levels ++ more) n left entry pieces
Stands-longer usable levels more n left entry pieces h = record {
  is_one = h.is_one;
  counts = h.counts;
  freq = h.freq;
  spread = h.spread;
  leads = Leads-longer levels more left entry pieces h.leads;
}

longer_first : (levels : List (List Entry)) (left : ℕ) (top entry : Entry) (mine yours : List Piece) → 0 < left → entry.len < top.len → Leads levels left top mine → Leads levels left entry yours
    → slice_cmp nat_cmp (lengths mine) (lengths yours) ≡ Greater
longer_first levels left top entry [] yours some l h i = absurd (omega arith)
longer_first levels left top entry (m ∷ mine) [] some l h i = absurd (omega arith)
longer_first levels left top entry (m ∷ mine) (y ∷ yours) some l h i =
    ap (λ o. ordering_then o (slice_cmp nat_cmp (lengths mine) (lengths yours))) (greater_len (phrase_len m.phrase) (phrase_len y.phrase) (omega (arith, h.0, i.0)))
  where
    greater_len : (a b : ℕ) → b < a → nat_cmp a b ≡ Greater
    greater_len a b l = grind (arith, nat_tests)

greater_than : (a b : ℕ) → b < a → nat_cmp a b ≡ Greater
greater_than a b l = grind (arith, nat_tests)

equal_to : (a b : ℕ) → a ≡ b → nat_cmp a b ≡ Equal
equal_to a b e = grind (arith, nat_tests)

-- an entry that beats another stands for better pieces
pub better-from_Beats : (usable : Interval → Option Piece) → GivesPieces usable → (levels : List (List Entry)) (n left : ℕ) (top entry : Entry) (mine yours : List Piece) → 0 < left
    → Beats top entry → Stands usable levels n left top mine → Stands usable levels n left entry yours → is_lt (segmentation_cmp mine yours) ≡ false
better-from_Beats usable fit levels n left top entry mine yours some b h i =
    let alike = IsAlike-from_counts (lengths mine) (lengths yours) (lengths_within usable fit (n - left) left mine h.is_one) (lengths_within usable fit (n - left) left yours i.is_one)
    (sym h.counts ∙ (b.counts ∙ i.counts)) in
    let score = score_cmp-IsAlike mine yours alike in
    ap is_lt (ap (λ o. ordering_then o (slice_cmp nat_cmp (lengths mine) (lengths yours))) score
    ∙ ⊎_elim
    (λ more. ap (λ o. ordering_then o (slice_cmp nat_cmp (lengths mine) (lengths yours))) (greater_than (weights mine) (weights yours) (omega (arith, more, h.freq, i.freq))))
    (λ tie. ap (λ o. ordering_then o (slice_cmp nat_cmp (lengths mine) (lengths yours))) (equal_to (weights mine) (weights yours) (omega (arith, tie.0, h.freq, i.freq)))
    ∙ longer_first levels left top entry mine yours some tie.1 h.leads i.leads)
    b.more)

-- what is no worse than another is no worse than what that one was no worse than
pub no_worse : (best mid pieces : List Piece) → is_lt (segmentation_cmp best mid) ≡ false → is_lt (segmentation_cmp mid pieces) ≡ false → is_lt (segmentation_cmp best pieces) ≡ false
no_worse best mid pieces h i =
    let order : IsStrictWeakOrder (λ x y. is_lt (segmentation_cmp x y)) = ranks_by segmentation_cmp_total (λ x. x) in
    order.chain best mid pieces h i
