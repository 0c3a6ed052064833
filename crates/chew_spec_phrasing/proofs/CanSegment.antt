-- There is a segmentation: a choice's cells are a piece, and each other cell is one.
use Rattle.std.proofs.Common.{◌≡◌, ℕ, zero, suc, ◌+◌, ◌-◌, ◌<◌, ◌≤◌, Bool, true, false, not, cond, ◌&&◌, ◌||◌, List, [], ◌∷◌, get_or, Contains, find, Option, Some, None, option_map, ◌⊎◌, inl, inr, ⊎_elim, sym, refl, ap, ap₂, ◌∙◌, subst, arith, if◌then◌else◌, true≢false, unwrap_or}
use Rattle.std.specs.Prelude.{◌==◌, nat_lt}
use Rattle.std.specs.List.{list_any}
use Rattle.std.specs.Option.{option_map_or}
use Rattle.std.proofs.lemmas.Bool.{and_from, cases_lt, cases_order, eq-eqb}
use Rattle.std.proofs.lemmas.List.{get_or_default}
use Rattle.std.proofs.lemmas.Bool.Decides.{nat_tests}
use Rattle.std.proofs.lemmas.List.Elements.{All-contains}
use Rattle.std.proofs.lemmas.List.Folds.{Any-from_list_any}
use Rattle.chew_spec_dictionary.specs.Call.{Hit}
use Rattle.chew_spec_dictionary.specs.Look.{Interval}
use Rattle.chew_spec_phrasing.specs.Best.{IsBest, best_of, best_pieces}
use Rattle.chew_spec_phrasing.specs.CanSegment.{CanSegment, cell_at, interval_of}
use Rattle.chew_spec_phrasing.specs.CombinedRows.{is_hit_at}
use Rattle.chew_spec_phrasing.specs.Segmentation.{GivesOwn, IsSegmentation}
use Rattle.chew_spec_phrasing.specs.Usable.{Choice, Piece, choice_end, agrees, first_row, is_exactly, is_unbroken, keeps_choices, lies_in, meets, phrase_len, piece_at, piece_by_rows, piece_of_choice, piece_of_hit}
use Rattle.chew_spec_phrasing.proofs.Best.{IsBest-from_best_of, no_segmentation-from_best_of}
use Rattle.chew_spec_phrasing.proofs.Membership.{Contains-nil, Contains-cases}
use Rattle.chew_spec_phrasing.proofs.Search.{IsSegmentation-none, IsSegmentation-cons}
use Rattle.chew_spec_phrasing.proofs.Usable.{GivesOwn-piece_at}

found_step : {X : Type 0} (p : X → Bool) (z : X) (zs : List X) (x : X) (b : Bool) → p z ≡ b → Contains (z ∷ zs) x → p x ≡ true → (Contains zs x → (y : X) × (find p zs ≡ Some y)) → (y : X) × (cond b (Some z) (find p zs) ≡ Some y)
found_step p z zs x true f i e rest = (z, refl)
found_step p z zs x false f i e rest =
    ⊎_elim (λ first. absurd (true≢false (sym e ∙ (sym (ap p first) ∙ f)))) rest (Contains-cases z zs x i)

-- an element that passes is found, or one before it is
pub find_from_Contains : {X : Type 0} (p : X → Bool) (xs : List X) (x : X) → Contains xs x → p x ≡ true → (y : X) × (find p xs ≡ Some y)
find_from_Contains p [] x i e = absurd (Contains-nil x i)
find_from_Contains p (z ∷ zs) x i e = found_step p z zs x (p z) refl i e (λ later. find_from_Contains p zs x later e)

-- where one test holds of each element, both are passed where the other is
found_with : {X : Type 0} (p q : X → Bool) (xs : List X) → ((x : X) → q x ≡ true) → list_any p xs ≡ true → (y : X) × (find (λ x. p x && q x) xs ≡ Some y)
found_with p q xs always e =
    let any = Any-from_list_any p xs e in
    find_from_Contains (λ x. p x && q x) xs any.1 (any.0, any.2, any.3) (and_from (p any.1) (q any.1) any.4 (always any.1))

no_place_between : (start place : ℕ) → not (nat_lt start place && nat_lt place (start + 1)) ≡ true
no_place_between start place = grind (arith, nat_tests)

-- no break lies strictly inside a cell
pub is_unbroken-cell : (breaks : List ℕ) (cell : ℕ) → is_unbroken breaks (cell_at cell) ≡ true
is_unbroken-cell [] cell = refl
is_unbroken-cell (place ∷ breaks) cell =
    and_from (not (nat_lt cell place && nat_lt place (cell + 1))) (is_unbroken breaks (cell_at cell)) (no_place_between cell place) (is_unbroken-cell breaks cell)

or_both : (a b : Bool) → (a || b) ≡ false → (a ≡ false) × (b ≡ false)
or_both true b e = absurd (true≢false e)
or_both false b e = (refl, e)

-- every phrase keeps choices that don't meet its interval
pub keeps_choices-apart : (choices : List Choice) (at : Interval) (phrase : List ℕ) → list_any (meets at) choices ≡ false → keeps_choices choices at phrase ≡ true
keeps_choices-apart [] at phrase e = refl
keeps_choices-apart (choice ∷ choices) at phrase e =
    let parts = or_both (meets at choice) (list_any (meets at) choices) e in
    and_from (if meets at choice then lies_in at choice && agrees at phrase choice else true) (keeps_choices choices at phrase)
    (ap (λ b. if b then lies_in at choice && agrees at phrase choice else true) parts.0)
    (keeps_choices-apart choices at phrase parts.1)

-- the piece of an interval, where it is usable
pub record IsUsable (usable : Interval → Option Piece) (at : Interval) : Type 0 where
  pub piece : Piece
  pub is : usable at ≡ Some piece

-- a cell outside all choices that has a row of length 1 is usable
pub IsUsable-cell : (rows : List Hit) (breaks : List ℕ) (choices : List Choice) (cell : ℕ) → list_any (meets (cell_at cell)) choices ≡ false → list_any (is_hit_at (cell_at cell)) rows ≡ true → IsUsable (piece_at rows breaks choices) (cell_at cell)
unfolding piece_at
IsUsable-cell rows breaks choices cell outside single =
    let found = by_choice (find (is_exactly (cell_at cell)) choices) in record { piece = found.0; is = found.1 }
  where
    row : (hit : Hit) × (first_row rows choices (cell_at cell) ≡ Some hit)
    row = found_with (is_hit_at (cell_at cell)) (λ hit. keeps_choices choices (cell_at cell) hit.phrase) rows (λ hit. keeps_choices-apart choices (cell_at cell) hit.phrase outside) single

    by_rows : piece_by_rows rows breaks choices (cell_at cell) ≡ Some (piece_of_hit row.0)
    by_rows =
        ap (λ b. cond b (option_map piece_of_hit (first_row rows choices (cell_at cell))) None) (is_unbroken-cell breaks cell)
        ∙ ap (option_map piece_of_hit) row.1

    by_choice : (o : Option Choice) → (piece : Piece) × (option_map_or (λ choice. Some (piece_of_choice choice)) o (piece_by_rows rows breaks choices (cell_at cell)) ≡ Some piece)
    by_choice None = (piece_of_hit row.0, by_rows)
    by_choice (Some choice) = (piece_of_choice choice, refl)

-- a choice's cells are usable
pub IsUsable-choice : (rows : List Hit) (breaks : List ℕ) (choices : List Choice) (choice : Choice) → Contains choices choice → IsUsable (piece_at rows breaks choices) (interval_of choice)
unfolding piece_at
IsUsable-choice rows breaks choices choice i =
    let exactly : is_exactly (interval_of choice) choice ≡ true =
    and_from (choice.start == choice.start) (phrase_len choice.phrase == phrase_len choice.phrase)
    (eq-eqb choice.start choice.start refl) (eq-eqb (phrase_len choice.phrase) (phrase_len choice.phrase) refl) in
    let found = find_from_Contains (is_exactly (interval_of choice)) choices choice i exactly in
    record {
      piece = piece_of_choice found.0;
      is = ap (λ o. option_map_or (λ c. Some (piece_of_choice c)) o (piece_by_rows rows breaks choices (interval_of choice))) found.1;
    }

-- no choice has the place strictly inside
pub record IsFree (choices : List Choice) (place : ℕ) : Type 0 where
  pub outside : (choice : Choice) → Contains choices choice → choice.start < place → place < choice_end choice → ⊥

-- the start of a run is free
pub IsFree-start : (choices : List Choice) → IsFree choices 0
IsFree-start choices = record { outside = λ choice i l m. omega arith }

not_met : (start cell end : ℕ) → (nat_lt start (cell + 1) && nat_lt cell end) ≡ false → start < cell + 1 → cell + 1 < end → ⊥
not_met start cell end e l m = grind (arith, nat_tests)

met : (start cell end : ℕ) → (nat_lt start (cell + 1) && nat_lt cell end) ≡ true → (start < cell + 1) × (cell < end)
met start cell end e = (grind (arith, nat_tests), grind (arith, nat_tests))

not_met_by : (choices : List Choice) (at : Interval) (choice : Choice) → list_any (meets at) choices ≡ false → Contains choices choice → meets at choice ≡ false
not_met_by [] at choice e i = absurd (Contains-nil choice i)
not_met_by (first ∷ choices) at choice e i =
    let parts = or_both (meets at first) (list_any (meets at) choices) e in
    ⊎_elim (λ same. sym (ap (meets at) same) ∙ parts.0) (λ later. not_met_by choices at choice parts.1 later) (Contains-cases first choices choice i)

-- the place behind a cell that no choice has is free
pub IsFree-cell : (choices : List Choice) (cell : ℕ) → list_any (meets (cell_at cell)) choices ≡ false → IsFree choices (cell + 1)
IsFree-cell choices cell e = record {
  outside = λ choice i l m. not_met choice.start cell (choice_end choice) (not_met_by choices (cell_at cell) choice e i) l m;
}

apart_at : (s e t f : ℕ) → (nat_lt t e && nat_lt s f) ≡ false → t < e → e < f → s < e → ⊥
apart_at s e t f h l m k = grind (arith, nat_tests)

apart_back : (s e t f : ℕ) → (nat_lt s f && nat_lt t e) ≡ false → t < e → e < f → s < e → ⊥
apart_back s e t f h l m k = grind (arith, nat_tests)

-- the place behind a choice is free
pub IsFree-choice : (rows : List Hit) (choices : List Choice) (n : ℕ) → CanSegment rows choices n → (choice : Choice) → Contains choices choice → IsFree choices (choice_end choice)
IsFree-choice rows choices n can choice i = record {
  outside = λ other j l m.
      let cells = All-contains (λ c. 0 < phrase_len c.phrase) choices choice can.choices_have_cells i in
      let starts_before : choice.start < choice_end choice = omega arith in
      by_order other j l m starts_before (cases_order i.0 j.0);
}
  where
    by_order : (other : Choice) (j : Contains choices other) → other.start < choice_end choice → choice_end choice < choice_end other → choice.start < choice_end choice → (i.0 ≡ j.0) ⊎ ((i.0 < j.0) ⊎ (j.0 < i.0)) → ⊥
    by_order other j l m k (inl same) =
        let e : choice ≡ other = sym i.2 ∙ (get_or_default choices i.0 choice other i.1 ∙ (ap (λ at. get_or choices at other) same ∙ j.2)) in
        let f = ap (λ (c : Choice). choice_end c) e in
        omega arith
    by_order other j l m k (inr (inl before)) =
        let pair = can.choices_apart i.0 j.0 choice before j.1 in
        let apart : meets (interval_of choice) other ≡ false =
        sym (ap₂ (λ c d. meets (interval_of c) d) i.2 (get_or_default choices j.0 choice other j.1 ∙ j.2)) ∙ pair in
        apart_at choice.start (choice_end choice) other.start (choice_end other) apart l m k
    by_order other j l m k (inr (inr after)) =
        let pair = can.choices_apart j.0 i.0 choice after i.1 in
        let apart : meets (interval_of other) choice ≡ false =
        sym (ap₂ (λ c d. meets (interval_of c) d) (get_or_default choices j.0 choice other j.1 ∙ j.2) i.2) ∙ pair in
        apart_back choice.start (choice_end choice) other.start (choice_end other) apart l m k

-- what is segmented
pub record IsSegmented (usable : Interval → Option Piece) (start n : ℕ) : Type 0 where
  pub pieces : List Piece
  pub are : IsSegmentation usable start n pieces

IsSegmented-cons : (usable : Interval → Option Piece) → GivesOwn usable → (start len n whole : ℕ) → 1 ≤ len → len + n ≡ whole → IsUsable usable (record { start = start; len = len }) → IsSegmented usable (start + len) n → IsSegmented usable start whole
IsSegmented-cons usable own start len n whole l e first rest = record {
  pieces = first.piece ∷ rest.pieces;
  are = subst (λ k. IsSegmentation usable start k (first.piece ∷ rest.pieces)) e
      (IsSegmentation-cons usable own start len n first.piece rest.pieces l first.is rest.are);
}

segmented_step : (rows : List Hit) (breaks : List ℕ) (choices : List Choice) (whole : ℕ) → CanSegment rows choices whole → (start n : ℕ) → 0 < n → start + n ≡ whole → IsFree choices start → ((later left : ℕ) → left < n → later + left ≡ whole → IsFree choices later → IsSegmented (piece_at rows breaks choices) later left) → IsSegmented (piece_at rows breaks choices) start n
segmented_step rows breaks choices whole can start n l e free rest = by_test (list_any (meets (cell_at start)) choices) refl
  where
    own : GivesOwn (piece_at rows breaks choices)
    own = GivesOwn-piece_at rows breaks choices can.rows_have_lengths

    by_choice : (choice : Choice) → Contains choices choice → meets (cell_at start) choice ≡ true → IsSegmented (piece_at rows breaks choices) start n
    by_choice choice i m =
        let within = met choice.start start (choice_end choice) m in
        let cells = All-contains (λ c. 0 < phrase_len c.phrase) choices choice can.choices_have_cells i in
        let ends = All-contains (λ c. choice_end c ≤ whole) choices choice can.choices_within i in
        let same : choice.start ≡ start = ⊎_elim (λ before. absurd (free.outside choice i before within.1)) (λ not_before. omega arith) (cases_lt choice.start start) in
        let len = phrase_len choice.phrase in
        let first : IsUsable (piece_at rows breaks choices) (record { start = start; len = len }) =
        subst (λ k. IsUsable (piece_at rows breaks choices) (record { start = k; len = len })) same (IsUsable-choice rows breaks choices choice i) in
        let behind : choice_end choice ≡ start + len = omega arith in
        IsSegmented-cons (piece_at rows breaks choices) own start len (n - len) n (omega arith) (omega arith) first
        (rest (start + len) (n - len) (omega arith) (omega arith) (subst (IsFree choices) behind (IsFree-choice rows choices whole can choice i)))

    by_test : (b : Bool) → list_any (meets (cell_at start)) choices ≡ b → IsSegmented (piece_at rows breaks choices) start n
    by_test true m =
        let any = Any-from_list_any (meets (cell_at start)) choices m in
        by_choice any.1 (any.0, any.2, any.3) any.4
    by_test false m =
        IsSegmented-cons (piece_at rows breaks choices) own start 1 (n - 1) n (omega arith) (omega arith)
        (IsUsable-cell rows breaks choices start m (can.has_singles start (omega arith) m))
        (rest (start + 1) (n - 1) (omega arith) (omega arith) (IsFree-cell choices start m))

segmented_from : (rows : List Hit) (breaks : List ℕ) (choices : List Choice) (whole : ℕ) → CanSegment rows choices whole → (bound start n : ℕ) → n ≤ bound → start + n ≡ whole → IsFree choices start → IsSegmented (piece_at rows breaks choices) start n
segmented_from rows breaks choices whole can bound start zero l e free =
    record { pieces = []; are = IsSegmentation-none (piece_at rows breaks choices) start }
segmented_from rows breaks choices whole can zero start (suc n) l e free = absurd (omega arith)
segmented_from rows breaks choices whole can (suc bound) start (suc n) l e free =
    segmented_step rows breaks choices whole can start (suc n) (omega arith) e free
    (λ later left m f g. segmented_from rows breaks choices whole can bound later left (omega arith) f g)

-- such a run has a segmentation
pub IsSegmented-from_CanSegment : (rows : List Hit) (breaks : List ℕ) (choices : List Choice) (n : ℕ) → CanSegment rows choices n → IsSegmented (piece_at rows breaks choices) 0 n
IsSegmented-from_CanSegment rows breaks choices n can =
    segmented_from rows breaks choices n can n 0 n (omega arith) (omega arith) (IsFree-start choices)

-- and so it has a best one
pub best_of-from_CanSegment : (rows : List Hit) (breaks : List ℕ) (choices : List Choice) (n : ℕ) → CanSegment rows choices n → (best : List Piece) × (best_of rows breaks choices n ≡ Some best)
best_of-from_CanSegment rows breaks choices n can = by_answer (best_of rows breaks choices n) refl
  where
    by_answer : (o : Option (List Piece)) → best_of rows breaks choices n ≡ o → (best : List Piece) × (o ≡ Some best)
    by_answer None e =
        let s = IsSegmented-from_CanSegment rows breaks choices n can in
        absurd (no_segmentation-from_best_of rows breaks choices n s.pieces e s.are)
    by_answer (Some best) e = (best, refl)

-- which none exceeds
pub IsBest-from_CanSegment : (rows : List Hit) (breaks : List ℕ) (choices : List Choice) (n : ℕ) → CanSegment rows choices n → IsBest (piece_at rows breaks choices) n (best_pieces rows breaks choices n)
IsBest-from_CanSegment rows breaks choices n can =
    let best = best_of-from_CanSegment rows breaks choices n can in
    subst (IsBest (piece_at rows breaks choices) n) (sym (ap (λ o. unwrap_or o []) best.1))
    (IsBest-from_best_of rows breaks choices n best.0 (GivesOwn-piece_at rows breaks choices can.rows_have_lengths) best.1)
