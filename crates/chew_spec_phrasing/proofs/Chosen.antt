-- A choice's cells have its phrase in every segmentation, and other intervals have a row's.
use Rattle.std.proofs.Common.{◌≡◌, ℕ, suc, ◌+◌, ◌-◌, ◌<◌, ◌≤◌, Bool, true, false, not, cond, ◌&&◌, ◌||◌, List, [], ◌∷◌, length, get_or, take, drop, All, AllPairs, Any, Contains, find, Option, Some, None, option_map, chars, eqb-true, leb-true, ◌⊎◌, inl, inr, ⊎_elim, sym, refl, ap, ap₂, ◌∙◌, subst, arith, take_all, if◌then◌else◌, true≢false}
use Rattle.std.specs.Prelude.{◌==◌, nat_le, nat_lt}
use Rattle.std.specs.List.{list_all, list_any}
use Rattle.std.specs.Option.{option_map_or}
use Rattle.std.proofs.lemmas.Bool.{and_from, and_left, cases_lt, cases_order, eq-eqb, le-leb, le-ltb, lt-leb, lt-ltb}
use Rattle.std.proofs.lemmas.Bool.Decides.{nat_tests}
use Rattle.std.proofs.lemmas.List.{get_or_default}
use Rattle.std.proofs.lemmas.List.Elements.{All-contains}
use Rattle.std.proofs.lemmas.List.Folds.{Any-from_list_any}
use Rattle.std.proofs.lemmas.Slice.Eq.{bytes_eq-Decides}
use Rattle.std.proofs.lemmas.Option.{none-some, same_Some}
use Rattle.chew_spec_dictionary.specs.Call.{Hit}
use Rattle.chew_spec_dictionary.specs.Look.{Interval}
use Rattle.chew_spec_phrasing.specs.CanSegment.{CanSegment, Shows, interval_of, interval_of_piece}
use Rattle.chew_spec_phrasing.specs.CombinedRows.{is_hit_at}
use Rattle.chew_spec_phrasing.specs.Segmentation.{IsOf, IsSegmentation}
use Rattle.chew_spec_phrasing.specs.Usable.{Choice, IsByRow, Piece, agrees, choice_end, first_row, interval_end, is_exactly, is_unbroken, keeps_choices, lies_in, meets, phrase_len, piece_at, piece_by_rows, piece_of_choice, piece_of_hit}
use Rattle.chew_spec_phrasing.proofs.CanSegment.{find_from_Contains}
use Rattle.chew_spec_phrasing.proofs.Membership.{Contains-nil, Contains-head, Contains-tail, Contains-cases}
use Rattle.chew_spec_phrasing.proofs.Search.{HasFirst-from_IsSegmentation}
use Rattle.chew_spec_phrasing.proofs.Usable.{BothTrue-from, GivesOwn-piece_at, Passes-from_find}

-- an element of a list all of which passes
pub passes_from_list_all : {X : Type 0} (p : X → Bool) (xs : List X) (x : X) → list_all p xs ≡ true → Contains xs x → p x ≡ true
passes_from_list_all p [] x e i = absurd (Contains-nil x i)
passes_from_list_all p (y ∷ ys) x e i =
    let both = BothTrue-from (p y) (list_all p ys) e in
    ⊎_elim (λ first. ap p (sym first) ∙ both.first) (λ later. passes_from_list_all p ys x both.second later) (Contains-cases y ys x i)

-- nothing is found where none passes
pub find_none : {X : Type 0} (p : X → Bool) (xs : List X) → list_any p xs ≡ false → find p xs ≡ None
find_none p [] e = refl
find_none p (x ∷ xs) e = by_test (p x) e (find_none p xs)
  where
    by_test : (b : Bool) → (b || list_any p xs) ≡ false → (list_any p xs ≡ false → find p xs ≡ None) → cond b (Some x) (find p xs) ≡ None
    by_test true f rest = absurd (true≢false f)
    by_test false f rest = rest f

-- an interval that is no choice's is usable by its rows alone
pub piece_at-other : (rows : List Hit) (breaks : List ℕ) (choices : List Choice) (at : Interval) → list_any (is_exactly at) choices ≡ false → piece_at rows breaks choices at ≡ piece_by_rows rows breaks choices at
unfolding piece_at
piece_at-other rows breaks choices at e =
    ap (λ o. option_map_or (λ choice. Some (piece_of_choice choice)) o (piece_by_rows rows breaks choices at)) (find_none (is_exactly at) choices e)

-- a place that is not strictly inside, behind the start, is not before the end
pub unbroken_at : (start place end : ℕ) → not (nat_lt start place && nat_lt place end) ≡ true → start < place → end ≤ place
unbroken_at start place end e l = grind (arith, nat_tests)

keeps_at : (m lies same : Bool) → (if m then lies && same else true) ≡ true → m ≡ true → (lies && same) ≡ true
keeps_at true lies same e f = e
keeps_at false lies same e f = absurd (true≢false (sym f))

-- the row that is the piece of such an interval
pub IsByRow-from_piece_by_rows : (rows : List Hit) (breaks : List ℕ) (choices : List Choice) (at : Interval) (piece : Piece) → piece_by_rows rows breaks choices at ≡ Some piece → IsByRow rows breaks choices at piece
IsByRow-from_piece_by_rows rows breaks choices at piece e = by_test (nat_le at.len 11 && is_unbroken breaks at) refl e
  where
    of_row : (hit : Hit) → first_row rows choices at ≡ Some hit → piece_of_hit hit ≡ piece → (nat_le at.len 11 && is_unbroken breaks at) ≡ true → IsByRow rows breaks choices at piece
    of_row hit found is fits =
        let passes = Passes-from_find (λ row. is_hit_at at row && keeps_choices choices at row.phrase) rows hit found in
        let tests = BothTrue-from (is_hit_at at hit) (keeps_choices choices at hit.phrase) passes.passes in
        let places = BothTrue-from (hit.start == at.start) (hit.len == at.len) tests.first in
        let limits = BothTrue-from (nat_le at.len 11) (is_unbroken breaks at) fits in
        let kept = λ (choice : Choice) (i : Contains choices choice) (m : meets at choice ≡ true).
        BothTrue-from (lies_in at choice) (agrees at hit.phrase choice)
        (keeps_at (meets at choice) (lies_in at choice) (agrees at hit.phrase choice)
        (passes_from_list_all (λ c. if meets at c then lies_in at c && agrees at hit.phrase c else true) choices choice tests.second i) m) in
        record {
          row = hit;
          among = passes.among;
          starts = eqb-true hit.start at.start places.first;
          as_long = eqb-true hit.len at.len places.second;
          is = sym is;
          at_most = leb-true at.len 11 limits.first;
          unbroken = λ place i. unbroken_at at.start place (interval_end at)
              (passes_from_list_all (λ p. not (nat_lt at.start p && nat_lt p (interval_end at))) breaks place limits.second i);
          lie = λ choice i m. (kept choice i m).first;
          agree = λ choice i m. (kept choice i m).second;
        }

    by_row : (o : Option Hit) → first_row rows choices at ≡ o → option_map piece_of_hit o ≡ Some piece → (nat_le at.len 11 && is_unbroken breaks at) ≡ true → IsByRow rows breaks choices at piece
    by_row None found f fits = absurd (none-some piece f)
    by_row (Some hit) found f fits = of_row hit found (same_Some (piece_of_hit hit) piece f) fits

    by_test : (b : Bool) → (nat_le at.len 11 && is_unbroken breaks at) ≡ b → cond b (option_map piece_of_hit (first_row rows choices at)) None ≡ Some piece → IsByRow rows breaks choices at piece
    by_test true fits f = by_row (first_row rows choices at) refl f fits
    by_test false fits f = absurd (none-some piece f)

and_swapped : (a b : Bool) → (a && b) ≡ true → (b && a) ≡ true
and_swapped true b e = and_from b true e refl
and_swapped false b e = absurd (true≢false (sym e))

-- two choices that share a cell are one
pub same_from_meets : (choices : List Choice) (choice other : Choice) → AllPairs (λ c d. meets (interval_of c) d ≡ false) choices → Contains choices choice → Contains choices other → meets (interval_of choice) other ≡ true → choice ≡ other
same_from_meets choices choice other apart i j m = by_order (cases_order i.0 j.0)
  where
    at_other : get_or choices j.0 choice ≡ other
    at_other = get_or_default choices j.0 choice other j.1 ∙ j.2

    by_order : (i.0 ≡ j.0) ⊎ ((i.0 < j.0) ⊎ (j.0 < i.0)) → choice ≡ other
    by_order (inl same) = sym i.2 ∙ (ap (λ k. get_or choices k choice) same ∙ at_other)
    by_order (inr (inl before)) =
        absurd (true≢false (sym m ∙ (sym (ap₂ (λ c d. meets (interval_of c) d) i.2 at_other) ∙ apart i.0 j.0 choice before j.1)))
    by_order (inr (inr after)) =
        let swapped = and_swapped (nat_lt other.start (interval_end (interval_of choice))) (nat_lt choice.start (choice_end other)) m in
        absurd (true≢false (sym swapped ∙ (sym (ap₂ (λ c d. meets (interval_of c) d) at_other i.2) ∙ apart j.0 i.0 choice after i.1)))

shares : (start end other other_end : ℕ) → other ≡ start → 0 < end → start < end → other < other_end → (nat_lt other end && nat_lt start other_end) ≡ true
shares start end other other_end e z l m = grind (arith, nat_tests)

-- a choice that is exactly an interval's is the one that is found
pub find_exactly : (rows : List Hit) (choices : List Choice) (n : ℕ) → CanSegment rows choices n → (at : Interval) (choice : Choice) → Contains choices choice → is_exactly at choice ≡ true → find (is_exactly at) choices ≡ Some choice
find_exactly rows choices n can at choice i e =
    let found = find_from_Contains (is_exactly at) choices choice i e in
    let passes = Passes-from_find (is_exactly at) choices found.0 found.1 in
    let mine = BothTrue-from (choice.start == at.start) (phrase_len choice.phrase == at.len) e in
    let its = BothTrue-from (found.0.start == at.start) (phrase_len found.0.phrase == at.len) passes.passes in
    let my_start = eqb-true choice.start at.start mine.first in
    let its_start = eqb-true found.0.start at.start its.first in
    let my_cells = All-contains (λ c. 0 < phrase_len c.phrase) choices choice can.choices_have_cells i in
    let its_cells = All-contains (λ c. 0 < phrase_len c.phrase) choices found.0 can.choices_have_cells passes.among in
    found.1 ∙ ap Some (sym (same_from_meets choices choice found.0 can.choices_apart i passes.among
    (shares choice.start (interval_end (interval_of choice)) found.0.start (choice_end found.0) (its_start ∙ sym my_start) (omega arith) (omega arith) (omega arith))))

-- its cells are a piece of its phrase and its kept frequency, whatever the rows and the breaks are
pub piece_at-exactly : (rows : List Hit) (breaks : List ℕ) (choices : List Choice) (n : ℕ) → CanSegment rows choices n → (at : Interval) (choice : Choice) → Contains choices choice → is_exactly at choice ≡ true → piece_at rows breaks choices at ≡ Some (piece_of_choice choice)
unfolding piece_at
piece_at-exactly rows breaks choices n can at choice i e =
    ap (λ o. option_map_or (λ c. Some (piece_of_choice c)) o (piece_by_rows rows breaks choices at)) (find_exactly rows choices n can at choice i e)

pub is_exactly-interval_of : (choice : Choice) → is_exactly (interval_of choice) choice ≡ true
is_exactly-interval_of choice =
    and_from (choice.start == choice.start) (phrase_len choice.phrase == phrase_len choice.phrase)
    (eq-eqb choice.start choice.start refl) (eq-eqb (phrase_len choice.phrase) (phrase_len choice.phrase) refl)

list_all_from_each : {X : Type 0} (p : X → Bool) (xs : List X) → ((x : X) → Contains xs x → p x ≡ true) → list_all p xs ≡ true
list_all_from_each p [] each = refl
list_all_from_each p (x ∷ xs) each =
    and_from (p x) (list_all p xs) (each x (Contains-head x xs)) (list_all_from_each p xs (λ y i. each y (Contains-tail x xs y i)))

unbroken_from : (start place end : ℕ) → (start < place → end ≤ place) → not (nat_lt start place && nat_lt place end) ≡ true
unbroken_from start place end h =
    ⊎_elim
    (λ behind. ap not (ap (λ b. b && nat_lt place end) (lt-ltb start place behind) ∙ le-ltb place end (h behind)))
    (λ before. ap not (ap (λ b. b && nat_lt place end) (le-ltb start place before)))
    (cases_lt start place)

keeps_from : (m lies same : Bool) → (m ≡ true → lies ≡ true) → (m ≡ true → same ≡ true) → (if m then lies && same else true) ≡ true
keeps_from true lies same h i = and_from lies same (h refl) (i refl)
keeps_from false lies same h i = refl

-- where there is such a row, the interval is usable
pub usable_from_IsByRow : (rows : List Hit) (breaks : List ℕ) (choices : List Choice) (at : Interval) (piece : Piece) → IsByRow rows breaks choices at piece → (first : Piece) × (piece_by_rows rows breaks choices at ≡ Some first)
usable_from_IsByRow rows breaks choices at piece h =
    let fits : (nat_le at.len 11 && is_unbroken breaks at) ≡ true =
    and_from (nat_le at.len 11) (is_unbroken breaks at) (le-leb at.len 11 h.at_most)
    (list_all_from_each (λ place. not (nat_lt at.start place && nat_lt place (interval_end at))) breaks
    (λ place i. unbroken_from at.start place (interval_end at) (h.unbroken place i))) in
    let is_hit : is_hit_at at h.row ≡ true =
    and_from (h.row.start == at.start) (h.row.len == at.len) (eq-eqb h.row.start at.start h.starts) (eq-eqb h.row.len at.len h.as_long) in
    let keeps : keeps_choices choices at h.row.phrase ≡ true =
    list_all_from_each (λ choice. if meets at choice then lies_in at choice && agrees at h.row.phrase choice else true) choices
    (λ choice i. keeps_from (meets at choice) (lies_in at choice) (agrees at h.row.phrase choice) (h.lie choice i) (h.agree choice i)) in
    let found = find_from_Contains (λ row. is_hit_at at row && keeps_choices choices at row.phrase) rows h.row h.among
    (and_from (is_hit_at at h.row) (keeps_choices choices at h.row.phrase) is_hit keeps) in (
      piece_of_hit found.0,
      ap (λ b. cond b (option_map piece_of_hit (first_row rows choices at)) None) fits ∙ ap (option_map piece_of_hit) found.1,
    )

none_exactly : (choices : List Choice) (at : Interval) → All (λ choice. phrase_len choice.phrase ≤ 11) choices → 11 < at.len → (b : Bool) → list_any (is_exactly at) choices ≡ b → b ≡ false
none_exactly choices at short l true e =
    let any = Any-from_list_any (is_exactly at) choices e in
    let places = BothTrue-from (any.1.start == at.start) (phrase_len any.1.phrase == at.len) any.4 in
    let same = eqb-true (phrase_len any.1.phrase) at.len places.second in
    let limit = All-contains (λ choice. phrase_len choice.phrase ≤ 11) choices any.1 short (any.0, any.2, any.3) in
    absurd (omega arith)
none_exactly choices at short l false e = refl

-- no interval of more than 11 syllables is usable
pub piece_at-long : (rows : List Hit) (breaks : List ℕ) (choices : List Choice) (at : Interval) → All (λ choice. phrase_len choice.phrase ≤ 11) choices → 11 < at.len → piece_at rows breaks choices at ≡ None
piece_at-long rows breaks choices at short l =
    piece_at-other rows breaks choices at (none_exactly choices at short l (list_any (is_exactly at) choices) refl)
    ∙ ap (λ b. cond b (option_map piece_of_hit (first_row rows choices at)) None) (and_left (nat_le at.len 11) (is_unbroken breaks at) (lt-leb at.len 11 l))

-- a choice shows itself
Shows-itself : (choice : Choice) → Shows (piece_of_choice choice) choice
Shows-itself choice =
    let text = chars choice.phrase in
    let none : choice.start - choice.start ≡ 0 = omega arith in
    record {
      lies = and_from (nat_le choice.start choice.start) (nat_le (choice_end choice) (choice_end choice))
          (le-leb choice.start choice.start (omega arith)) (le-leb (choice_end choice) (choice_end choice) (omega arith));
      same = (bytes_eq-Decides (take (length text) (drop (choice.start - choice.start) text)) text).1
          (ap (λ k. take (length text) (drop k text)) none ∙ take_all (length text) text (omega arith));
    }

interval_is : (at : Interval) (piece : Piece) → IsOf at piece → at ≡ interval_of_piece piece
interval_is at piece h =
    ap₂ (λ (start len : ℕ). let i : Interval = record { start = start; len = len } in i) (sym h.start) (sym h.len)

shown_by_first : (rows : List Hit) (breaks : List ℕ) (choices : List Choice) (n : ℕ) → CanSegment rows choices n → (at : Interval) (piece : Piece) (choice : Choice) → Contains choices choice → piece_at rows breaks choices at ≡ Some piece → meets at choice ≡ true → Shows piece choice
shown_by_first rows breaks choices n can at piece choice i e m = by_test (list_any (is_exactly at) choices) refl
  where
    is_of : IsOf at piece
    is_of = (GivesOwn-piece_at rows breaks choices can.rows_have_lengths).own at piece e

    by_choice : (other : Choice) → Contains choices other → is_exactly at other ≡ true → Shows piece choice
    by_choice other j x =
        let own = same_Some (piece_of_choice other) piece (sym (piece_at-exactly rows breaks choices n can at other j x) ∙ e) in
        let there : at ≡ interval_of other = interval_is at piece is_of ∙ sym (ap interval_of_piece own) in
        let same = same_from_meets choices other choice can.choices_apart j i (sym (ap (λ k. meets k choice) there) ∙ m) in
        subst (λ p. Shows p choice) (ap piece_of_choice (sym same) ∙ own) (Shows-itself choice)

    by_test : (b : Bool) → list_any (is_exactly at) choices ≡ b → Shows piece choice
    by_test true x =
        let any = Any-from_list_any (is_exactly at) choices x in
        by_choice any.1 (any.0, any.2, any.3) any.4
    by_test false x =
        let h = IsByRow-from_piece_by_rows rows breaks choices at piece (sym (piece_at-other rows breaks choices at x) ∙ e) in
        let there = interval_is at piece is_of in
        record {
          lies = ap (λ k. lies_in k choice) (sym there) ∙ h.lie choice i m;
          same = ap₂ (λ k p. agrees k p choice) (sym there) (ap (λ (p : Piece). p.phrase) h.is) ∙ h.agree choice i m;
        }

met_from : (start end other other_end : ℕ) → start ≤ other → other < end → other < other_end → (nat_lt other end && nat_lt start other_end) ≡ true
met_from start end other other_end l m k =
    and_from (nat_lt other end) (nat_lt start other_end) (lt-ltb other end m) (lt-ltb start other_end (omega arith))

shown_from : (rows : List Hit) (breaks : List ℕ) (choices : List Choice) (whole : ℕ) → CanSegment rows choices whole → (choice : Choice) → Contains choices choice → (pieces : List Piece) (start n : ℕ) → IsSegmentation (piece_at rows breaks choices) start n pieces → start ≤ choice.start → choice_end choice ≤ start + n → Any (λ piece. Shows piece choice) pieces
shown_from rows breaks choices whole can choice i [] start n h l m =
    absurd (let cells = All-contains (λ c. 0 < phrase_len c.phrase) choices choice can.choices_have_cells i in let e = h.adds_up.whole in omega arith)
shown_from rows breaks choices whole can choice i (piece ∷ pieces) start n h l m =
    let cells = All-contains (λ c. 0 < phrase_len c.phrase) choices choice can.choices_have_cells i in
    let f = HasFirst-from_IsSegmentation (piece_at rows breaks choices) start n (piece ∷ pieces) (omega arith) h in
    let joined = f.joined in
    let within = f.within in
    let first : f.piece ≡ piece = cc in
    let rest : f.rest ≡ pieces = cc in
    let at : Interval = record { start = start; len = f.len } in
    ⊎_elim
    (λ meets_first. (
      0,
      piece,
      omega arith,
      refl,
      shown_by_first rows breaks choices whole can at piece choice i (f.is_usable ∙ ap Some first)
          (met_from start (start + f.len) choice.start (choice_end choice) l meets_first (omega arith)),
    ))
    (λ behind.
    let any = shown_from rows breaks choices whole can choice i pieces (start + f.len) (n - f.len)
    (subst (IsSegmentation (piece_at rows breaks choices) (start + f.len) (n - f.len)) rest f.follows) behind (omega arith) in
    (suc any.0, any.1, omega (arith, any.2), any.3, any.4))
    (cases_lt choice.start (start + f.len))

-- each segmentation shows each choice
pub shown-IsSegmentation : (rows : List Hit) (breaks : List ℕ) (choices : List Choice) (n : ℕ) (pieces : List Piece) (choice : Choice) → CanSegment rows choices n → IsSegmentation (piece_at rows breaks choices) 0 n pieces → Contains choices choice → Any (λ piece. Shows piece choice) pieces
shown-IsSegmentation rows breaks choices n pieces choice can h i =
    shown_from rows breaks choices n can choice i pieces 0 n h (omega arith)
    (let ends = All-contains (λ c. choice_end c ≤ n) choices choice can.choices_within i in omega arith)
