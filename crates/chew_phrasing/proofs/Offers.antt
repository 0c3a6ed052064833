-- A choice or a row offered as the piece of its interval: it stands where nothing else does.
use Rattle.std.proofs.Common.{◌≡◌, ◌≢◌, ℕ, ◌+◌, ◌-◌, ◌*◌, ◌<◌, ◌≤◌, ◌⊎◌, inl, inr, ⊎_elim, Bool, true, false, ◌&&◌, List, [], ◌∷◌, ◌++◌, length, get_or, set, Option, Some, None, is_none, eqb-true, sym, refl, ap, ap₂, ◌∙◌, true≢false, arith}
use Rattle.std.specs.Prelude.{◌==◌}
use Rattle.std.proofs.lemmas.Bool.{cases_lt, false≢true, le-leb}
use Rattle.std.proofs.lemmas.Bool.Decides.{nat_tests}
use Rattle.std.proofs.lemmas.List.{get_or-set_same, get_or-set_other}
use Rattle.chew_spec_dictionary.specs.Call.{Hit}
use Rattle.chew_spec_dictionary.specs.Look.{Interval}
use Rattle.chew_spec_phrasing.specs.CombinedRows.{is_hit_at}
use Rattle.chew_spec_phrasing.specs.Usable.{Choice, Piece, is_exactly, is_unbroken, keeps_choices, phrase_len, piece_at, piece_of_choice, piece_of_hit}
use Rattle.chew_spec_phrasing.proofs.Usable.{BothTrue-from}
use Rattle.chew_phrasing.specs.Grid.{Grid, IsGrid, IsInside, in_slot, put_in, slot_of}
use Rattle.chew_phrasing.proofs.Slots.{choice_kept, choice_new, choice_other, row_kept, row_new, row_other, row_refused}

-- the slots stay as they are where the pieces of the run do
pub IsGrid-same : (usable later : Interval → Option Piece) (grid : Grid) → ((at : Interval) → IsInside grid.cells at → later at ≡ usable at) → IsGrid usable grid → IsGrid later grid
IsGrid-same usable later grid same h = record { each = λ at inside. h.each at inside ∙ sym (same at inside) }

pub same_interval : (at here : Interval) → 1 ≤ at.len → at.len ≤ 11 → 1 ≤ here.len → here.len ≤ 11 → slot_of at ≡ slot_of here → at ≡ here
same_interval at here l m n o e =
    let start : at.start ≡ here.start = omega arith in
    let len : at.len ≡ here.len = omega arith in
    ap₂ (λ s k. record { start = s; len = k }) start len

pub same_or_other : (a b : ℕ) → (a ≡ b) ⊎ (a ≢ b)
same_or_other a b = ⊎_elim (λ l. inr (λ e. omega arith)) (λ l. ⊎_elim (λ m. inr (λ e. omega arith)) (λ m. inl (omega arith)) (cases_lt b a)) (cases_lt a b)

-- one piece more
pub IsGrid-put : (usable later : Interval → Option Piece) (grid : Grid) (here : Interval) (piece : Piece) → length grid.slots ≡ grid.cells * 11 → IsInside grid.cells here → later here ≡ Some piece
    → ((at : Interval) → IsInside grid.cells at → slot_of at ≢ slot_of here → later at ≡ usable at) → IsGrid usable grid → IsGrid later (put_in grid here piece)
IsGrid-put usable later grid here piece whole i is others h = record {
  each = λ at inside. ⊎_elim
      (λ same. ap (λ k. get_or (set grid.slots (slot_of here) (Some piece)) k None) same
      ∙ (get_or-set_same grid.slots (slot_of here) (Some piece) None (in_range i)
      ∙ (sym is ∙ ap later (sym (same_interval at here inside.some inside.short i.some i.short same)))))
      (λ other. get_or-set_other grid.slots (slot_of here) (slot_of at) (Some piece) None other ∙ (h.each at inside ∙ sym (others at inside other)))
      (same_or_other (slot_of at) (slot_of here));
}
  where
    in_range : IsInside grid.cells here → slot_of here < length grid.slots
    in_range i = let a = i.some in let b = i.short in let c = i.within in omega arith

not_exactly : (at here : Interval) (choice : Choice) → here ≡ record { start = choice.start; len = phrase_len choice.phrase } → slot_of at ≢ slot_of here → is_exactly at choice ≡ false
not_exactly at here choice is other = by_test (is_exactly at choice) refl
  where
    by_test : (b : Bool) → is_exactly at choice ≡ b → b ≡ false
    by_test false e = refl
    by_test true e =
        let both = BothTrue-from (choice.start == at.start) (phrase_len choice.phrase == at.len) e in
        absurd (other (ap₂ (λ s k. s * 11 + (k - 1)) (sym (eqb-true choice.start at.start both.first)) (sym (eqb-true (phrase_len choice.phrase) at.len both.second)) ∙ ap slot_of (sym is)))

both_true : (a b : Bool) → a ≡ true → b ≡ true → (a && b) ≡ true
both_true a b e f = ap₂ (λ x y. x && y) e f

eqb-same : (n : ℕ) → (n == n) ≡ true
eqb-same n = by_test (n == n) refl
  where
    by_test : (b : Bool) → (n == n) ≡ b → b ≡ true
    by_test true e = refl
    by_test false e = grind (arith, nat_tests)

not_there : (at here : Interval) (row : Hit) → here ≡ record { start = row.start; len = row.len } → slot_of at ≢ slot_of here → is_hit_at at row ≡ false
not_there at here row is other = by_test (is_hit_at at row) refl
  where
    by_test : (b : Bool) → is_hit_at at row ≡ b → b ≡ false
    by_test false e = refl
    by_test true e =
        let both = BothTrue-from (row.start == at.start) (row.len == at.len) e in
        absurd (other (ap₂ (λ s k. s * 11 + (k - 1)) (sym (eqb-true row.start at.start both.first)) (sym (eqb-true row.len at.len both.second)) ∙ ap slot_of (sym is)))

pub something : (o : Option Piece) → is_none o ≡ false → (piece : Piece) × (o ≡ Some piece)
something None e = absurd (true≢false e)
something (Some piece) e = (piece, refl)

pub nothing : (o : Option Piece) → is_none o ≡ true → o ≡ None
nothing None e = refl
nothing (Some piece) e = absurd (false≢true e)

-- the slot's piece stays
IsGrid-taken : (usable later : Interval → Option Piece) (grid : Grid) (here : Interval) → IsInside grid.cells here → ((piece : Piece) → usable here ≡ Some piece → later here ≡ Some piece)
    → ((at : Interval) → IsInside grid.cells at → slot_of at ≢ slot_of here → later at ≡ usable at) → is_none (in_slot grid here) ≡ false → IsGrid usable grid → IsGrid later grid
IsGrid-taken usable later grid here i kept others taken h =
    let old = something (in_slot grid here) taken in
    let had : usable here ≡ Some old.0 = sym (h.each here i) ∙ old.1 in
    IsGrid-same usable later grid
    (λ at inside. ⊎_elim
    (λ same. let e = same_interval at here inside.some inside.short i.some i.short same in
    ap later e ∙ (kept old.0 had ∙ (sym had ∙ ap usable (sym e))))
    (λ other. others at inside other)
    (same_or_other (slot_of at) (slot_of here)))
    h

module _ (breaks : List ℕ) (before : List Choice) (choice : Choice) (grid : Grid) where
  -- a choice that reaches past the run
  pub choice_beyond : grid.cells < choice.start + phrase_len choice.phrase → IsGrid (piece_at [] breaks before) grid → IsGrid (piece_at [] breaks (before ++ (choice ∷ []))) grid
  choice_beyond past h =
      IsGrid-same (piece_at [] breaks before) (piece_at [] breaks (before ++ (choice ∷ []))) grid
      (λ at inside. choice_other breaks before choice at (not_so at inside (is_exactly at choice) refl))
      h
    where
      not_so : (at : Interval) → IsInside grid.cells at → (b : Bool) → is_exactly at choice ≡ b → is_exactly at choice ≡ false
      not_so at inside false e = e
      not_so at inside true e =
          let both = BothTrue-from (choice.start == at.start) (phrase_len choice.phrase == at.len) e in
          let start = eqb-true choice.start at.start both.first in
          let len = eqb-true (phrase_len choice.phrase) at.len both.second in
          let within = inside.within in
          absurd (omega arith)

  -- a choice whose cells have a piece
  pub choice_taken : (here : Interval) → here ≡ record { start = choice.start; len = phrase_len choice.phrase } → IsInside grid.cells here → is_none (in_slot grid here) ≡ false
      → IsGrid (piece_at [] breaks before) grid → IsGrid (piece_at [] breaks (before ++ (choice ∷ []))) grid
  choice_taken here is i taken h =
      IsGrid-taken (piece_at [] breaks before) (piece_at [] breaks (before ++ (choice ∷ []))) grid here i
      (λ piece e. choice_kept breaks before choice here piece e)
      (λ at inside other. choice_other breaks before choice at (not_exactly at here choice is other))
      taken h

  -- a choice whose cells have none
  pub choice_put : (here : Interval) → here ≡ record { start = choice.start; len = phrase_len choice.phrase } → length grid.slots ≡ grid.cells * 11 → IsInside grid.cells here → is_none (in_slot grid here) ≡ true
      → IsGrid (piece_at [] breaks before) grid → IsGrid (piece_at [] breaks (before ++ (choice ∷ []))) (put_in grid here (piece_of_choice choice))
  choice_put here is whole i free h =
      IsGrid-put (piece_at [] breaks before) (piece_at [] breaks (before ++ (choice ∷ []))) grid here (piece_of_choice choice) whole i
      (choice_new breaks before choice here (sym (h.each here i) ∙ nothing (in_slot grid here) free)
      (ap (λ at. is_exactly at choice) is ∙ both_true (choice.start == choice.start) (phrase_len choice.phrase == phrase_len choice.phrase) (eqb-same choice.start) (eqb-same (phrase_len choice.phrase))))
      (λ at inside other. choice_other breaks before choice at (not_exactly at here choice is other))
      h

module _ (breaks : List ℕ) (choices : List Choice) (before : List Hit) (row : Hit) (grid : Grid) where
  -- a row that reaches past the run
  pub row_beyond : grid.cells < row.start + row.len → IsGrid (piece_at before breaks choices) grid → IsGrid (piece_at (before ++ (row ∷ [])) breaks choices) grid
  row_beyond past h =
      IsGrid-same (piece_at before breaks choices) (piece_at (before ++ (row ∷ [])) breaks choices) grid
      (λ at inside. row_other breaks choices before row at (not_so at inside (is_hit_at at row) refl))
      h
    where
      not_so : (at : Interval) → IsInside grid.cells at → (b : Bool) → is_hit_at at row ≡ b → is_hit_at at row ≡ false
      not_so at inside false e = e
      not_so at inside true e =
          let both = BothTrue-from (row.start == at.start) (row.len == at.len) e in
          let start = eqb-true row.start at.start both.first in
          let len = eqb-true row.len at.len both.second in
          let within = inside.within in
          absurd (omega arith)

  -- a row whose interval has a piece
  pub row_taken : (here : Interval) → here ≡ record { start = row.start; len = row.len } → IsInside grid.cells here → is_none (in_slot grid here) ≡ false
      → IsGrid (piece_at before breaks choices) grid → IsGrid (piece_at (before ++ (row ∷ [])) breaks choices) grid
  row_taken here is i taken h =
      IsGrid-taken (piece_at before breaks choices) (piece_at (before ++ (row ∷ [])) breaks choices) grid here i
      (λ piece e. row_kept breaks choices before row here piece e)
      (λ at inside other. row_other breaks choices before row at (not_there at here row is other))
      taken h

  -- a row that a break or a choice doesn't let stand
  pub row_barred : (here : Interval) → here ≡ record { start = row.start; len = row.len } → IsInside grid.cells here → (is_unbroken breaks here && keeps_choices choices here row.phrase) ≡ false
      → IsGrid (piece_at before breaks choices) grid → IsGrid (piece_at (before ++ (row ∷ [])) breaks choices) grid
  row_barred here is i barred h =
      IsGrid-same (piece_at before breaks choices) (piece_at (before ++ (row ∷ [])) breaks choices) grid
      (λ at inside. ⊎_elim
      (λ same. row_refused breaks choices before row at
      (ap (λ k. is_unbroken breaks k && keeps_choices choices k row.phrase) (same_interval at here inside.some inside.short i.some i.short same) ∙ barred))
      (λ other. row_other breaks choices before row at (not_there at here row is other))
      (same_or_other (slot_of at) (slot_of here)))
      h

  -- a row whose interval has none
  pub row_put : (here : Interval) → here ≡ record { start = row.start; len = row.len } → length grid.slots ≡ grid.cells * 11 → IsInside grid.cells here → is_none (in_slot grid here) ≡ true
      → (is_unbroken breaks here && keeps_choices choices here row.phrase) ≡ true → IsGrid (piece_at before breaks choices) grid → IsGrid (piece_at (before ++ (row ∷ [])) breaks choices) (put_in grid here (piece_of_hit row))
  row_put here is whole i free may h =
      IsGrid-put (piece_at before breaks choices) (piece_at (before ++ (row ∷ [])) breaks choices) grid here (piece_of_hit row) whole i
      (row_new breaks choices before row here (sym (h.each here i) ∙ nothing (in_slot grid here) free) (let l = i.short in le-leb here.len 11 l)
      (ap (λ at. is_hit_at at row) is ∙ both_true (row.start == row.start) (row.len == row.len) (eqb-same row.start) (eqb-same row.len)) may)
      (λ at inside other. row_other breaks choices before row at (not_there at here row is other))
      h
