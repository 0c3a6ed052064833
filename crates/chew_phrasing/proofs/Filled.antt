-- The grid of a run, one interval filled at a time.
use Rattle.std.proofs.Common.{◌≡◌, ℕ, ◌+◌, ◌*◌, ◌<◌, ◌≤◌, Bool, true, false, cond, ◌&&◌, inl, inr, ⊎_elim, List, [], ◌∷◌, ◌++◌, length, get_or, set, find, All, Contains, Option, Some, None, is_none, option_map, sym, refl, ap, ap₂, ◌∙◌, subst, true≢false, arith}
use Rattle.std.specs.Prelude.{nat_le}
use Rattle.std.specs.Option.{option_map_or}
use Rattle.std.proofs.lemmas.Bool.{le-leb}
use Rattle.std.proofs.lemmas.List.{get_or-set_same, get_or-set_other}
use Rattle.std.proofs.lemmas.List.Elements.{All-contains, Contains-append_cases}
use Rattle.std.proofs.lemmas.Option.{none-some}
use Rattle.chew_spec_dictionary.specs.Call.{Hit}
use Rattle.chew_spec_dictionary.specs.Look.{Interval, intervals}
use Rattle.chew_spec_phrasing.specs.Usable.{Choice, Piece, first_row, is_exactly, is_unbroken, piece_at, piece_of_choice, piece_of_hit}
use Rattle.chew_spec_phrasing.proofs.CombinedSegment.{Contains-intervals}
use Rattle.chew_spec_phrasing.proofs.Membership.{Contains-single}
use Rattle.chew_phrasing.specs.Grid.{Grid, IsFilled, IsGrid, IsInside, in_slot, put_in, slot_of}
use Rattle.chew_phrasing.proofs.Offers.{nothing, same_interval, same_or_other, something}

module _ (full part : Interval → Option Piece) (done : List Interval) (grid : Grid) (here : Interval) (inside : IsInside grid.cells here) (h : IsFilled full part done grid) where
  -- the slot has the full piece already
  pub filled_same : in_slot grid here ≡ full here → IsFilled full part (done ++ (here ∷ [])) grid
  filled_same is = record {
    each = λ at i. ⊎_elim
        (λ same. inl (subst (λ k. in_slot grid k ≡ full k) (sym (same_interval at here i.some i.short inside.some inside.short same)) is))
        (λ other. ⊎_elim (λ old. inl old) (λ new. inr (new.0, λ k. ⊎_elim (λ before. new.1 before) (λ now. other (ap slot_of (sym (Contains-single here at now)))) (Contains-append_cases done (here ∷ []) at k))) (h.each at i))
        (same_or_other (slot_of at) (slot_of here));
  }

  -- or it gets it
  pub filled_put : (piece : Piece) → length grid.slots ≡ grid.cells * 11 → full here ≡ Some piece → IsFilled full part (done ++ (here ∷ [])) (put_in grid here piece)
  filled_put piece whole is = record {
    each = λ at i. ⊎_elim
        (λ same. inl (ap (λ k. get_or (set grid.slots (slot_of here) (Some piece)) k None) same
        ∙ (get_or-set_same grid.slots (slot_of here) (Some piece) None (in_range inside)
        ∙ (sym is ∙ ap full (sym (same_interval at here i.some i.short inside.some inside.short same))))))
        (λ other.
        let kept : in_slot (put_in grid here piece) at ≡ in_slot grid at = get_or-set_other grid.slots (slot_of here) (slot_of at) (Some piece) None other in
        ⊎_elim (λ old. inl (kept ∙ old)) (λ new. inr (kept ∙ new.0, λ k. ⊎_elim (λ before. new.1 before) (λ now. other (ap slot_of (sym (Contains-single here at now)))) (Contains-append_cases done (here ∷ []) at k))) (h.each at i))
        (same_or_other (slot_of at) (slot_of here));
  }
    where
      in_range : IsInside grid.cells here → slot_of here < length grid.slots
      in_range i = let a = i.some in let b = i.short in let c = i.within in omega arith

module _ (rows : List Hit) (breaks : List ℕ) (choices : List Choice) (at : Interval) where
  -- a piece that a choice gives is given whatever the rows are
  chosen_kept : (piece : Piece) → piece_at [] breaks choices at ≡ Some piece → piece_at rows breaks choices at ≡ Some piece
  unfolding piece_at
  chosen_kept piece e = by_found (find (is_exactly at) choices) (nat_le at.len 11 && is_unbroken breaks at) e
    where
      by_found : (o : Option Choice) (b : Bool) → option_map_or (λ c. Some (piece_of_choice c)) o (cond b (option_map piece_of_hit None) None) ≡ Some piece
          → option_map_or (λ c. Some (piece_of_choice c)) o (cond b (option_map piece_of_hit (first_row rows choices at)) None) ≡ Some piece
      by_found (Some c) b e = e
      by_found None true e = absurd (none-some piece e)
      by_found None false e = absurd (none-some piece e)

  -- where none is given, no choice is exactly there
  none_chosen : (others : List Hit) → piece_at others breaks choices at ≡ None → find (is_exactly at) choices ≡ None
  unfolding piece_at
  none_chosen others e = by_found (find (is_exactly at) choices) e
    where
      by_found : (o : Option Choice) → option_map_or (λ c. Some (piece_of_choice c)) o (cond (nat_le at.len 11 && is_unbroken breaks at) (option_map piece_of_hit (first_row others choices at)) None) ≡ None → o ≡ None
      by_found (Some c) e = absurd (none-some (piece_of_choice c) (sym e))
      by_found None e = refl

  -- what the rows give then
  by_rows : (b : Bool) (o : Option Hit) → at.len ≤ 11 → find (is_exactly at) choices ≡ None → is_unbroken breaks at ≡ b → first_row rows choices at ≡ o → piece_at rows breaks choices at ≡ cond b (option_map piece_of_hit o) None
  unfolding piece_at
  by_rows b o short none unbroken is =
      ap (λ c. option_map_or (λ x. Some (piece_of_choice x)) c (cond (nat_le at.len 11 && is_unbroken breaks at) (option_map piece_of_hit (first_row rows choices at)) None)) none
      ∙ (ap (λ t. cond t (option_map piece_of_hit (first_row rows choices at)) None) (ap₂ (λ x y. x && y) (le-leb at.len 11 short) unbroken)
      ∙ ap (λ r. cond b (option_map piece_of_hit r) None) is)

  unbroken_none : (b : Bool) → b ≡ false → cond b (option_map piece_of_hit (first_row rows choices at)) None ≡ None
  unbroken_none true e = absurd (true≢false e)
  unbroken_none false e = refl

module _ (rows : List Hit) (breaks : List ℕ) (choices : List Choice) (done : List Interval) (grid : Grid) (here : Interval) (inside : IsInside grid.cells here)
    (h : IsFilled (piece_at rows breaks choices) (piece_at [] breaks choices) done grid) where
  full_here : Interval → Option Piece
  full_here = piece_at rows breaks choices

  free_none : is_none (in_slot grid here) ≡ true → find (is_exactly here) choices ≡ None
  free_none free =
      let empty = nothing (in_slot grid here) free in
      ⊎_elim (λ old. none_chosen rows breaks choices here rows (sym old ∙ empty)) (λ new. none_chosen rows breaks choices here [] (sym new.0 ∙ empty)) (h.each here inside)

  -- an interval that has a piece
  pub fill_taken : is_none (in_slot grid here) ≡ false → IsFilled (piece_at rows breaks choices) (piece_at [] breaks choices) (done ++ (here ∷ [])) grid
  fill_taken taken =
      let had = something (in_slot grid here) taken in
      filled_same (piece_at rows breaks choices) (piece_at [] breaks choices) done grid here inside h
      (⊎_elim (λ old. old) (λ new. had.1 ∙ sym (chosen_kept rows breaks choices here had.0 (sym new.0 ∙ had.1))) (h.each here inside))

  -- one that a break parts
  pub fill_broken : is_none (in_slot grid here) ≡ true → is_unbroken breaks here ≡ false → IsFilled (piece_at rows breaks choices) (piece_at [] breaks choices) (done ++ (here ∷ [])) grid
  fill_broken free broken =
      filled_same (piece_at rows breaks choices) (piece_at [] breaks choices) done grid here inside h
      (nothing (in_slot grid here) free ∙ sym (by_rows rows breaks choices here false (first_row rows choices here) inside.short (free_none free) broken refl))

  -- one of which no row will do
  pub fill_none : (o : Option Hit) → o ≡ None → is_none (in_slot grid here) ≡ true → is_unbroken breaks here ≡ true → first_row rows choices here ≡ o → IsFilled (piece_at rows breaks choices) (piece_at [] breaks choices) (done ++ (here ∷ [])) grid
  fill_none o none free unbroken is =
      filled_same (piece_at rows breaks choices) (piece_at [] breaks choices) done grid here inside h
      (nothing (in_slot grid here) free ∙ sym (by_rows rows breaks choices here true None inside.short (free_none free) unbroken (is ∙ none)))

  -- and one with a first row
  pub fill_first : (o : Option Hit) (hit : Hit) (piece : Piece) → o ≡ Some hit → piece ≡ piece_of_hit hit → length grid.slots ≡ grid.cells * 11 → is_none (in_slot grid here) ≡ true → is_unbroken breaks here ≡ true → first_row rows choices here ≡ o
      → IsFilled (piece_at rows breaks choices) (piece_at [] breaks choices) (done ++ (here ∷ [])) (put_in grid here piece)
  fill_first o hit piece some same whole free unbroken is =
      filled_put (piece_at rows breaks choices) (piece_at [] breaks choices) done grid here inside h piece whole
      (by_rows rows breaks choices here true (Some hit) inside.short (free_none free) unbroken (is ∙ some) ∙ ap Some (sym same))

-- at first no interval is filled
pub filled_none : (full part : Interval → Option Piece) (grid : Grid) → IsGrid part grid → IsFilled full part [] grid
filled_none full part grid h = record { each = λ at i. inr (h.each at i, λ k. omega (arith, k.1)) }

-- in the end all are
pub filled_all : (full part : Interval → Option Piece) (done : List Interval) (n : ℕ) (grid : Grid) → grid.cells ≡ n → done ≡ intervals n → IsFilled full part done grid → IsGrid full grid
filled_all full part done n grid cells all h = record {
  each = λ at i. ⊎_elim (λ old. old) (λ new. absurd (new.1 (subst (λ list. Contains list at) (sym all) (Contains-intervals n at
      (let a = i.some in let b = i.short in let c = i.within in record { starts = omega arith; from_one = omega arith; fits = omega arith })))))
      (h.each at i);
}

-- an interval of the list lies inside the run
pub inside_of : (list all : List Interval) (i n cells : ℕ) (at : Interval) → i < length list → at ≡ get_or list i at → list ≡ all → cells ≡ n → All (λ x. (1 ≤ x.len) × (x.len ≤ 11) × (x.start + x.len ≤ n)) all → IsInside cells at
inside_of list all i n cells at l is same count each =
    let parts = All-contains (λ x. (1 ≤ x.len) × (x.len ≤ 11) × (x.start + x.len ≤ n)) all at each (subst (λ xs. Contains xs at) same (i, l, sym is)) in
    record { some = parts.0; short = parts.1; within = omega (arith, parts.2) }
