-- A level of the table, filled from the longest first pieces to the shortest.
use Rattle.std.proofs.Common.{◌≡◌, ◌≢◌, ℕ, zero, suc, ◌+◌, ◌-◌, ◌*◌, ◌^◌, ◌<◌, ◌≤◌, ◌⊎◌, inl, inr, ⊎_elim, min, false, List, [], ◌∷◌, ◌++◌, length, get_or, replicate, Contains, slice_get, Option, Some, None, sym, refl, ap, ◌∙◌, subst, arith}
use Rattle.std.proofs.lemmas.Bool.{cases_lt}
use Rattle.std.proofs.lemmas.Bool.Decides.{nat_tests}
use Rattle.std.proofs.lemmas.List.{get_or-set_same, get_or-set_other}
use Rattle.std.proofs.lemmas.Option.{none-some, same_Some, slice_get-get_or, slice_get_within, get_or_from_slice_get}
use Rattle.chew_spec_dictionary.specs.Look.{Interval}
use Rattle.chew_spec_phrasing.specs.Score.{difference, weight}
use Rattle.chew_spec_phrasing.specs.Segmentation.{IsSegmentation, lengths}
use Rattle.chew_spec_phrasing.specs.Usable.{Piece, phrase_len}
use Rattle.chew_spec_phrasing.proofs.Membership.{Contains-head, Contains-single}
use Rattle.chew_spec_phrasing.proofs.SameLengths.{segmentation_cmp-behind}
use Rattle.chew_spec_phrasing.proofs.Search.{none_from_IsSegmentation}
use Rattle.chew_spec_phrasing.proofs.Greatest.{not_above_itself}
use Rattle.chew_spec_phrasing.proofs.Best.{segmentation_cmp_total}
use Rattle.chew_spec_phrasing.specs.Best.{segmentation_cmp}
use Rattle.std.specs.Ordering.{is_lt, nat_cmp, ord_min}
use Rattle.chew_phrasing.specs.Counts.{counts_of, no_counts, one_more, sum_over}
use Rattle.chew_phrasing.specs.Merge.{HasAtLeast, IsMerged}
use Rattle.chew_phrasing.specs.Table.{Covers, Entry, GivesPieces, IsLevel, IsPart, IsSmall, IsTable, Stands, all_behind, behind, end_of_run}
use Rattle.chew_phrasing.proofs.Counting.{IsAlike-from_counts, length-counts_of, product_within}
use Rattle.chew_phrasing.proofs.Stands.{Stands-behind, Stands-end, Stands-longer, better-from_Beats, lengths_within, no_worse, parts_of}

-- an entry of a level, by its place
pub record IsBehind (len worth place : ℕ) (entries : List Entry) (entry : Entry) : Type 0 where
  pub next : Entry
  pub at : ℕ
  pub among : slice_get entries at ≡ Some next
  pub is : entry ≡ behind len worth (place + at) next

none_among : (entry : Entry) → Contains [] entry → ⊥
none_among entry h = omega (arith, h.1)

cases_at : (y : Entry) (xs : List Entry) (x : Entry) (k : ℕ) → k < length (y ∷ xs) → get_or (y ∷ xs) k x ≡ x → (y ≡ x) ⊎ Contains xs x
cases_at y xs x zero l e = inl e
cases_at y xs x (suc k) l e = inr (k, omega arith, e)

from_all_behind : (len worth place : ℕ) (entries : List Entry) (entry : Entry) → Contains (all_behind len worth place entries) entry → IsBehind len worth place entries entry
from_all_behind len worth place [] entry h = absurd (none_among entry h)
from_all_behind len worth place (x ∷ entries) entry h =
    ⊎_elim
    (λ first. record { next = x; at = 0; among = refl; is = sym first ∙ ap (λ k. behind len worth k x) (let e : place ≡ place + 0 = omega arith in e) })
    (λ later. let rest = from_all_behind len worth (suc place) entries entry later in
    record { next = rest.next; at = suc rest.at; among = rest.among; is = rest.is ∙ ap (λ k. behind len worth k rest.next) (let e : suc place + rest.at ≡ place + suc rest.at = omega arith in e) })
    (cases_at (behind len worth place x) (all_behind len worth (suc place) entries) entry h.0 h.1 h.2)

in_all_behind : (len worth place at : ℕ) (entries : List Entry) (next : Entry) → slice_get entries at ≡ Some next → Contains (all_behind len worth place entries) (behind len worth (place + at) next)
in_all_behind len worth place at [] next e = absurd (none-some next e)
in_all_behind len worth place zero (x ∷ entries) next e =
    subst (Contains (all_behind len worth place (x ∷ entries))) (ap (λ y. behind len worth place y) (same_Some x next e) ∙ ap (λ k. behind len worth k next) (let e : place ≡ place + 0 = omega arith in e))
    (Contains-head (behind len worth place x) (all_behind len worth (suc place) entries))
in_all_behind len worth place (suc at) (x ∷ entries) next e =
    let rest = in_all_behind len worth (suc place) at entries next e in
    let same : suc place + at ≡ place + suc at = omega arith in
    subst (λ k. Contains (all_behind len worth place (x ∷ entries)) (behind len worth k next)) same
    (suc rest.0, omega (arith, rest.1), rest.2)

-- the place of an entry
at_place : (entries : List Entry) (entry : Entry) → Contains entries entry → (at : ℕ) × (slice_get entries at ≡ Some entry)
at_place entries entry h = (h.0, slice_get-get_or entries h.0 entry h.1 ∙ ap Some h.2)

in_place : (entries : List Entry) (at : ℕ) (entry : Entry) → slice_get entries at ≡ Some entry → Contains entries entry
in_place entries at entry e = (at, slice_get_within entries at entry e, get_or_from_slice_get entries at entry entry e)

-- small numbers stay small
pub IsSmall-more : (few many : ℕ) (entry : Entry) → few ≤ many → IsSmall few entry → IsSmall many entry
IsSmall-more few many entry l h = record {
  counts = λ place. omega (arith, h.counts place);
  freq = omega (arith, h.freq);
  spread = omega (arith, h.spread);
}

sum_over_within : (f : ℕ → ℕ) (first most high : ℕ) (counts : List ℕ) → ((place : ℕ) → get_or counts place 0 ≤ most) → ((len : ℕ) → len < first + length counts → f len ≤ high) → sum_over f first counts ≤ length counts * (most * high)
sum_over_within f first most high [] small low = omega arith
sum_over_within f first most high (count ∷ counts) small low =
    let rest = sum_over_within f (suc first) most high counts (λ place. small (suc place)) (λ len l. low len (omega arith)) in
    let one = product_within count (f first) most high (small 0) (low first (omega arith)) in
    let e : suc (length counts) * (most * high) ≡ length counts * (most * high) + most * high = omega arith in
    omega arith

counts_more : (few many len place : ℕ) (counts : List ℕ) → length counts ≡ 11 → 1 ≤ len → len ≤ 11 → few + 1 ≤ many → ((at : ℕ) → get_or counts at 0 ≤ few) → get_or (one_more len counts) place 0 ≤ many
counts_more few many len place counts whole one short l small =
    ⊎_elim
    (λ same. let e : get_or (one_more len counts) place 0 ≡ get_or counts (len - 1) 0 + 1 =
    ap (λ k. get_or (one_more len counts) k 0) same ∙ get_or-set_same counts (len - 1) (get_or counts (len - 1) 0 + 1) 0 (omega arith) in
    omega (arith, small (len - 1)))
    (λ other. let e : get_or (one_more len counts) place 0 ≡ get_or counts place 0 = get_or-set_other counts (len - 1) place (get_or counts (len - 1) 0 + 1) 0 other in
    omega (arith, small place))
    (same_or_other place (len - 1))
  where
    same_or_other : (a b : ℕ) → (a ≡ b) ⊎ (a ≢ b)
    same_or_other a b = ⊎_elim (λ l. inr (λ e. omega arith)) (λ l. ⊎_elim (λ m. inr (λ e. omega arith)) (λ m. inl (omega arith)) (cases_lt b a)) (cases_lt a b)

-- the numbers of an order behind a piece are small too
pub IsSmall-behind : (left len worth place : ℕ) (next : Entry) → length next.counts ≡ 11 → 1 ≤ len → len ≤ 11 → len ≤ left → left ≤ 39 → worth < 2 ^ 32 → IsSmall (left - len) next → IsSmall left (behind len worth place next)
IsSmall-behind left len worth place next whole one short within few w h =
    let sums = sum_over_within (difference len) 1 39 11 next.counts (λ at. omega (arith, h.counts at)) (λ other l. omega arith) in
    let e : length next.counts * (39 * 11) ≡ 4719 = ap (λ k. k * (39 * 11)) whole in
    record {
      counts = λ at. counts_more (left - len) left len at next.counts whole one short (omega arith) h.counts;
      freq = omega (arith, h.freq);
      spread = omega (arith, h.spread);
    }

-- a place of a list with one element more
in_push : (levels : List (List Entry)) (level : List Entry) (left : ℕ) (other : List Entry) → slice_get (levels ++ (level ∷ [])) left ≡ Some other → (slice_get levels left ≡ Some other) ⊎ ((left ≡ length levels) × (level ≡ other))
in_push [] level zero other e = inr (refl, same_Some level other e)
in_push [] level (suc left) other e = absurd (none-some other e)
in_push (x ∷ levels) level zero other e = inl e
in_push (x ∷ levels) level (suc left) other e =
    ⊎_elim (λ old. inl old) (λ new. inr (ap suc new.0, new.1)) (in_push levels level left other e)

-- the orders of a level behind a piece
pub record IsPiecePart (usable : Interval → Option Piece) (levels : List (List Entry)) (n left len : ℕ) (part : List Entry) : Type 0 where
  pub each : (entry : Entry) → Contains part entry → (order : List Piece) × Stands usable levels n left entry order
  pub small : (entry : Entry) → Contains part entry → IsSmall left entry
  pub as_long : (entry : Entry) → Contains part entry → entry.len ≡ len
  pub covers : (piece : Piece) (rest : List Piece) → IsSegmentation usable (n - left) left (piece ∷ rest) → phrase_len piece.phrase ≡ len
      → Covers usable levels n left part (piece ∷ rest)

module _ (usable : Interval → Option Piece) (fit : GivesPieces usable) (levels : List (List Entry)) (n left : ℕ) where
  pub part_of_level : (len worth : ℕ) (piece : Piece) (level : List Entry) → 1 ≤ len → len ≤ left → left ≤ n → n ≤ 39 → worth < 2 ^ 32 → usable (record { start = n - left; len = len }) ≡ Some piece
      → worth ≡ weight (len, piece.freq) → slice_get levels (left - len) ≡ Some level → IsLevel usable levels n (left - len) level → IsPiecePart usable levels n left len (all_behind len worth 0 level)
  part_of_level len worth piece level one within whole few w is count at h = record {
    each = λ entry i.
        let b = from_all_behind len worth 0 level entry i in
        let o = h.each b.next (in_place level b.at b.next b.among) in
        (piece ∷ o.0, subst (λ e. Stands usable levels n left e (piece ∷ o.0)) (sym b.is) (stands b.at b.next o.0 b.among o.1));
    small = λ entry i.
        let b = from_all_behind len worth 0 level entry i in
        let o = h.each b.next (in_place level b.at b.next b.among) in
        subst (IsSmall left) (sym b.is)
        (IsSmall-behind left len worth (0 + b.at) b.next (ap length o.1.counts ∙ length-counts_of (lengths o.0)) one short within (omega arith) w (h.small b.next (in_place level b.at b.next b.among)));
    as_long = λ entry i. ap (λ (e : Entry). e.len) (from_all_behind len worth 0 level entry i).is;
    covers = λ other rest i e. covered other rest i e;
  }
    where
      short : len ≤ 11
      short = fit.short (record { start = n - left; len = len }) piece is

      stands : (place : ℕ) (next : Entry) (rest : List Piece) → slice_get level place ≡ Some next → Stands usable levels n (left - len) next rest → Stands usable levels n left (behind len worth (0 + place) next) (piece ∷ rest)
      stands place next rest among s =
          subst (λ k. Stands usable levels n left (behind len k (0 + place) next) (piece ∷ rest)) (sym count)
          (Stands-behind usable fit levels n left len (0 + place) level next piece rest one within whole is at
          (subst (λ k. slice_get level k ≡ Some next) (let e : place ≡ 0 + place = omega arith in e) among) s)

      covered_by : (rest : List Piece) → IsSegmentation usable (n - (left - len)) (left - len) rest → Covers usable levels n (left - len) level rest → Covers usable levels n left (all_behind len worth 0 level) (piece ∷ rest)
      covered_by rest seg c =
          let at_place = at_place level c.entry c.among in
          let alike = IsAlike-from_counts (lengths c.order) (lengths rest) (lengths_within usable fit (n - (left - len)) (left - len) c.order c.stands.is_one)
          (lengths_within usable fit (n - (left - len)) (left - len) rest seg) c.alike in
          record {
            entry = behind len worth (0 + at_place.0) c.entry;
            order = piece ∷ c.order;
            among = in_all_behind len worth 0 at_place.0 level c.entry at_place.1;
            stands = stands at_place.0 c.entry c.order at_place.1 c.stands;
            alike = ap (one_more (phrase_len piece.phrase)) c.alike;
            unbeaten = ap is_lt (segmentation_cmp-behind (piece ∷ []) c.order rest alike) ∙ c.unbeaten;
          }

      covered : (other : Piece) (rest : List Piece) → IsSegmentation usable (n - left) left (other ∷ rest) → phrase_len other.phrase ≡ len → Covers usable levels n left (all_behind len worth 0 level) (other ∷ rest)
      covered other rest seg e =
          let p = parts_of usable (n - left) left other rest seg in
          let same : piece ≡ other = same_Some piece other (sym is ∙ (ap (λ k. usable (record { start = n - left; len = k })) (sym e) ∙ p.is_usable)) in
          let follows : IsSegmentation usable (n - (left - len)) (left - len) rest =
          subst (λ k. IsSegmentation usable k (left - len) rest) (let f : n - left + len ≡ n - (left - len) = omega arith in f)
          (subst (λ k. IsSegmentation usable (n - left + k) (left - k) rest) e p.follows) in
          subst (λ x. Covers usable levels n left (all_behind len worth 0 level) (x ∷ rest)) same
          (covered_by rest follows (h.covers rest follows))

  kept_cover : (above : ℕ) (all : List Entry) (pieces : List Piece) (entry : Entry) (order : List Piece) → 0 < left → ((e : Entry) → Contains all e → (o : List Piece) × Stands usable levels n left e o)
      → HasAtLeast all entry → Stands usable levels n left entry order → counts_of (lengths order) ≡ counts_of (lengths pieces) → is_lt (segmentation_cmp order pieces) ≡ false → Covers usable levels n left all pieces
  kept_cover above all pieces entry order some each k stands alike unbeaten =
      ⊎_elim
      (λ same. record {
        entry = entry;
        order = order;
        among = subst (Contains all) same k.among;
        stands = stands;
        alike = alike;
        unbeaten = unbeaten;
      })
      (λ beats.
      let o = each k.top k.among in
      record {
        entry = k.top;
        order = o.0;
        among = k.among;
        stands = o.1;
        alike = sym o.1.counts ∙ (beats.counts ∙ (stands.counts ∙ alike));
        unbeaten = no_worse o.0 order pieces (better-from_Beats usable fit levels n left k.top entry o.0 order some beats o.1 stands) unbeaten;
      })
      k.is

  -- with the orders that begin with a piece of one syllable less
  pub part_merged : (len : ℕ) (own part all : List Entry) → 0 < left → 1 ≤ len → IsPart usable levels n left len own → IsPiecePart usable levels n left len part → IsMerged own part all → IsPart usable levels n left (len - 1) all
  part_merged len own part all some one h p m =
      let each : (entry : Entry) → Contains all entry → (order : List Piece) × Stands usable levels n left entry order =
      λ entry i. ⊎_elim (λ mine. h.each entry mine) (λ yours. p.each entry yours) (m.from entry i) in
      record {
        each = each;
        small = λ entry i. ⊎_elim (λ mine. h.small entry mine) (λ yours. p.small entry yours) (m.from entry i);
        longer = λ entry i. ⊎_elim (λ mine. let l = h.longer entry mine in omega arith) (λ yours. let l = p.as_long entry yours in omega arith) (m.from entry i);
        covers = λ piece rest seg l. ⊎_elim
            (λ above. let c = h.covers piece rest seg above in
            kept_cover len all (piece ∷ rest) c.entry c.order some each (m.own_kept c.entry c.among) c.stands c.alike c.unbeaten)
            (λ same. let c = p.covers piece rest seg (let e : phrase_len piece.phrase ≡ len = omega arith in e) in
            kept_cover len all (piece ∷ rest) c.entry c.order some each (m.other_kept c.entry c.among) c.stands c.alike c.unbeaten)
            (cases_lt len (phrase_len piece.phrase));
      }

  -- no piece is as long
  pub part_skipped : (len : ℕ) (own : List Entry) → 1 ≤ len → usable (record { start = n - left; len = len }) ≡ None → IsPart usable levels n left len own → IsPart usable levels n left (len - 1) own
  part_skipped len own one none h = record {
    each = h.each;
    small = h.small;
    longer = λ entry i. let l = h.longer entry i in omega arith;
    covers = λ piece rest seg l. ⊎_elim
        (λ above. h.covers piece rest seg above)
        (λ same.
        let e : phrase_len piece.phrase ≡ len = omega arith in
        let p = parts_of usable (n - left) left piece rest seg in
        absurd (none-some piece (sym none ∙ (ap (λ k. usable (record { start = n - left; len = k })) (sym e) ∙ p.is_usable))))
        (cases_lt len (phrase_len piece.phrase));
  }

  -- no piece is longer than 11 syllables or than the run
  pub part_none : (most : ℕ) → min 11 left ≤ most → IsPart usable levels n left most []
  part_none most l = record {
    each = λ entry i. absurd (none_among entry i);
    small = λ entry i. absurd (none_among entry i);
    longer = λ entry i. absurd (none_among entry i);
    covers = λ piece rest seg above.
        let p = parts_of usable (n - left) left piece rest seg in
        let short = fit.short (record { start = n - left; len = phrase_len piece.phrase }) piece p.is_usable in
        let within = p.within in
        absurd (omega arith);
  }

  -- all lengths
  pub level_whole : (own : List Entry) → 0 < left → IsPart usable levels n left 0 own → IsLevel usable levels n left own
  level_whole own some h = record {
    each = h.each;
    small = h.small;
    covers = λ pieces seg. covered pieces seg;
  }
    where
      covered : (pieces : List Piece) → IsSegmentation usable (n - left) left pieces → Covers usable levels n left own pieces
      covered [] seg = absurd (let e = seg.adds_up.whole in omega arith)
      covered (piece ∷ rest) seg = h.covers piece rest seg (parts_of usable (n - left) left piece rest seg).from_one

no_more : (n place : ℕ) → get_or (replicate n 0) place 0 ≤ 0
no_more zero place = omega arith
no_more (suc n) zero = omega arith
no_more (suc n) (suc place) = no_more n place

none_counted : (place : ℕ) → get_or no_counts place 0 ≤ 0
none_counted place = omega (arith, no_more 11 place)

module _ (usable : Interval → Option Piece) (levels : List (List Entry)) (n : ℕ) where
  -- the level at the end of the run
  pub level_at_end : IsLevel usable levels n 0 (end_of_run ∷ [])
  level_at_end = record {
    each = λ entry i. ([], subst (λ e. Stands usable levels n 0 e []) (Contains-single end_of_run entry i) (Stands-end usable levels n));
    small = λ entry i. subst (IsSmall 0) (Contains-single end_of_run entry i) (record { counts = λ place. none_counted place; freq = omega arith; spread = omega arith });
    covers = λ pieces seg. record {
      entry = end_of_run;
      order = [];
      among = Contains-head end_of_run [];
      stands = Stands-end usable levels n;
      alike = ap (λ list. counts_of (lengths list)) (sym (none_from_IsSegmentation usable (n - 0) pieces seg));
      unbeaten = subst (λ list. is_lt (segmentation_cmp [] list) ≡ false) (sym (none_from_IsSegmentation usable (n - 0) pieces seg)) (not_above_itself segmentation_cmp segmentation_cmp_total []);
    };
  }

  level_longer : (left : ℕ) (level : List Entry) (more : List (List Entry)) → IsLevel usable levels n left level → IsLevel usable (levels ++ more) n left level
  level_longer left level more h = record {
    each = λ entry i. let o = h.each entry i in (o.0, Stands-longer usable levels more n left entry o.0 o.1);
    small = h.small;
    covers = λ pieces seg.
        let c = h.covers pieces seg in
        record {
          entry = c.entry;
          order = c.order;
          among = c.among;
          stands = Stands-longer usable levels more n left c.entry c.order c.stands;
          alike = c.alike;
          unbeaten = c.unbeaten;
        };
  }

  -- one level more
  pub table_more : (level : List Entry) → IsTable usable n levels → IsLevel usable levels n (length levels) level → IsTable usable n (levels ++ (level ∷ []))
  table_more level h l = record {
    each = λ left other e. by_place left other (in_push levels level left other e);
  }
    where
      by_place : (left : ℕ) (other : List Entry) → (slice_get levels left ≡ Some other) ⊎ ((left ≡ length levels) × (level ≡ other)) → IsLevel usable (levels ++ (level ∷ [])) n left other
      by_place left other p =
          ⊎_elim
          (λ old. level_longer left other (level ∷ []) (h.each left other old))
          (λ new. subst (λ k. IsLevel usable (levels ++ (level ∷ [])) n k other) (sym new.0)
          (subst (IsLevel usable (levels ++ (level ∷ [])) n (length levels)) new.1 (level_longer (length levels) level (level ∷ []) l)))
          p

-- the least of two, as the code has it
pub least_of : (a b : ℕ) → min a b ≤ ord_min nat_cmp a b
least_of a b = grind (arith, nat_tests)

-- no level is a table
pub table_none : (usable : Interval → Option Piece) (n : ℕ) → IsTable usable n []
table_none usable n = record { each = λ left level e. absurd (none-some level e) }

-- the level at the end is one
pub table_at_end : (usable : Interval → Option Piece) (n : ℕ) (had levels : List (List Entry)) (level : List Entry) → had ≡ [] → levels ≡ had ++ (level ∷ []) → level ≡ end_of_run ∷ [] → IsTable usable n levels
table_at_end usable n had levels level none e is =
    subst (IsTable usable n) (sym (e ∙ (ap (λ xs. xs ++ (level ∷ [])) none ∙ ap (λ x. x ∷ []) is)))
    (table_more usable [] n (end_of_run ∷ []) (table_none usable n) (level_at_end usable [] n))

-- and so are the levels with the next
pub table_next : (usable : Interval → Option Piece) (n left : ℕ) (levels pushed : List (List Entry)) (level : List Entry) → length levels ≡ left → pushed ≡ levels ++ (level ∷ []) → IsLevel usable levels n left level → IsTable usable n levels → IsTable usable n pushed
table_next usable n left levels pushed level whole e l h =
    subst (IsTable usable n) (sym e) (table_more usable levels n level h (subst (λ k. IsLevel usable levels n k level) (sym whole) l))
