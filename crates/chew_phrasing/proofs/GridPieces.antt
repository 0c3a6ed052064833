-- The segmentations by a grid's pieces are those by the rules.
use Rattle.std.proofs.Common.{◌≡◌, ℕ, ◌+◌, ◌-◌, ◌≤◌, ⊎_elim, Bool, true, false, cond, ◌&&◌, List, [], ◌∷◌, All, Option, Some, None, sym, refl, ap, ap₂, ◌∙◌, subst, arith}
use Rattle.std.specs.Prelude.{nat_le}
use Rattle.std.proofs.lemmas.Bool.{and_parts, cases_lt, le-leb, leb-true}
use Rattle.std.proofs.lemmas.Option.{none-some}
use Rattle.chew_spec_dictionary.specs.Call.{Hit}
use Rattle.chew_spec_dictionary.specs.Look.{Interval}
use Rattle.chew_spec_phrasing.specs.Best.{IsBest, best_of}
use Rattle.chew_spec_phrasing.specs.CanSegment.{CanSegment}
use Rattle.chew_spec_phrasing.specs.Segmentation.{GivesOwn, IsSegmentation}
use Rattle.chew_spec_phrasing.specs.Usable.{Choice, Piece, phrase_len, piece_at}
use Rattle.chew_spec_phrasing.proofs.Best.{IsBest-from_best_of, best_of-from_IsBest}
use Rattle.chew_spec_phrasing.proofs.CanSegment.{best_of-from_CanSegment}
use Rattle.chew_spec_phrasing.proofs.Chosen.{piece_at-long}
use Rattle.chew_spec_phrasing.proofs.Search.{IsSegmentation-cons}
use Rattle.chew_spec_phrasing.proofs.Usable.{GivesOwn-piece_at}
use Rattle.chew_phrasing.specs.Grid.{Grid, IsGrid, IsInside, in_slot, piece_in}
use Rattle.chew_phrasing.specs.Table.{GivesPieces}
use Rattle.chew_phrasing.proofs.Stands.{parts_of}

-- a piece of the grid is one of an interval inside the run
inside_from : (grid : Grid) (at : Interval) (piece : Piece) → piece_in grid at ≡ Some piece → IsInside grid.cells at × (in_slot grid at ≡ Some piece)
unfolding piece_in
inside_from grid at piece e = by_test (nat_le 1 at.len && (nat_le at.len 11 && nat_le (at.start + at.len) grid.cells)) refl e
  where
    by_test : (b : Bool) → (nat_le 1 at.len && (nat_le at.len 11 && nat_le (at.start + at.len) grid.cells)) ≡ b → cond b (in_slot grid at) None ≡ Some piece → IsInside grid.cells at × (in_slot grid at ≡ Some piece)
    by_test false t e = absurd (none-some piece e)
    by_test true t e =
        let first = and_parts (nat_le 1 at.len) (nat_le at.len 11 && nat_le (at.start + at.len) grid.cells) t in
        let rest = and_parts (nat_le at.len 11) (nat_le (at.start + at.len) grid.cells) first.1 in
        (record { some = leb-true 1 at.len first.0; short = leb-true at.len 11 rest.0; within = leb-true (at.start + at.len) grid.cells rest.1 }, e)

piece_inside : (grid : Grid) (at : Interval) → IsInside grid.cells at → piece_in grid at ≡ in_slot grid at
unfolding piece_in
piece_inside grid at i =
    ap (λ b. cond b (in_slot grid at) None)
    (ap₂ (λ a b. a && b) (le-leb 1 at.len i.some) (ap₂ (λ a b. a && b) (le-leb at.len 11 i.short) (le-leb (at.start + at.len) grid.cells i.within)))

module _ (usable : Interval → Option Piece) (own : GivesOwn usable) (grid : Grid) (is : IsGrid usable grid) where
  -- the grid's pieces are usable
  usable_from : (at : Interval) (piece : Piece) → piece_in grid at ≡ Some piece → usable at ≡ Some piece
  usable_from at piece e = let i = inside_from grid at piece e in sym (is.each at i.0) ∙ i.1

  pub GivesPieces-grid : GivesPieces (piece_in grid)
  GivesPieces-grid = record {
    own = record { own = λ at piece e. own.own at piece (usable_from at piece e) };
    short = λ at piece e. (inside_from grid at piece e).0.short;
  }

  -- and those of the run that are usable are the grid's
  in_grid : ((at : Interval) (piece : Piece) → usable at ≡ Some piece → at.len ≤ 11) → (at : Interval) (piece : Piece) → 1 ≤ at.len → at.start + at.len ≤ grid.cells → usable at ≡ Some piece → piece_in grid at ≡ Some piece
  in_grid short at piece some within e =
      let i : IsInside grid.cells at = record { some = some; short = short at piece e; within = within } in
      piece_inside grid at i ∙ (is.each at i ∙ e)

carried : (u v : Interval → Option Piece) → GivesOwn v → (n : ℕ) → ((at : Interval) (piece : Piece) → 1 ≤ at.len → at.start + at.len ≤ n → u at ≡ Some piece → v at ≡ Some piece)
    → (start left : ℕ) (pieces : List Piece) → start + left ≡ n → IsSegmentation u start left pieces → IsSegmentation v start left pieces
carried u v own n each start left [] e h = record { adds_up = h.adds_up; are_usable = refl }
carried u v own n each start left (piece ∷ pieces) e h =
    let p = parts_of u start left piece pieces h in
    let within = p.within in
    let rest = carried u v own n each (start + phrase_len piece.phrase) (left - phrase_len piece.phrase) pieces (omega arith) p.follows in
    subst (λ k. IsSegmentation v start k (piece ∷ pieces)) (let f : phrase_len piece.phrase + (left - phrase_len piece.phrase) ≡ left = omega arith in f)
    (IsSegmentation-cons v own start (phrase_len piece.phrase) (left - phrase_len piece.phrase) piece pieces p.from_one
    (each (record { start = start; len = phrase_len piece.phrase }) piece p.from_one (omega arith) p.is_usable) rest)

module _ (usable : Interval → Option Piece) (own : GivesOwn usable) (short : (at : Interval) (piece : Piece) → usable at ≡ Some piece → at.len ≤ 11) (grid : Grid) (is : IsGrid usable grid) where
  -- a segmentation by the rules is one by the grid
  pub IsSegmentation-grid : (pieces : List Piece) → IsSegmentation usable 0 grid.cells pieces → IsSegmentation (piece_in grid) 0 grid.cells pieces
  IsSegmentation-grid pieces h =
      carried usable (piece_in grid) (GivesPieces-grid usable own grid is).own grid.cells (in_grid usable own grid is short) 0 grid.cells pieces (omega arith) h

  -- and the best by the grid is the best by the rules
  pub IsBest-from_grid : (best : List Piece) → IsBest (piece_in grid) grid.cells best → IsBest usable grid.cells best
  IsBest-from_grid best h = record {
    is_one = carried (piece_in grid) usable own grid.cells (λ at piece some within e. usable_from usable own grid is at piece e) 0 grid.cells best (omega arith) h.is_one;
    unbeaten = λ other i. h.unbeaten other (IsSegmentation-grid other i);
  }

-- the rules of rows, breaks and choices
module _ (rows : List Hit) (breaks : List ℕ) (choices : List Choice) (n : ℕ) (grid : Grid) (can : CanSegment rows choices n) (few : All (λ choice. phrase_len choice.phrase ≤ 11) choices)
    (cells : grid.cells ≡ n) (is : IsGrid (piece_at rows breaks choices) grid) where
  own_pieces : GivesOwn (piece_at rows breaks choices)
  own_pieces = GivesOwn-piece_at rows breaks choices can.rows_have_lengths

  short_pieces : (at : Interval) (piece : Piece) → piece_at rows breaks choices at ≡ Some piece → at.len ≤ 11
  short_pieces at piece e = ⊎_elim (λ l. absurd (none-some piece (sym (piece_at-long rows breaks choices at few l) ∙ e))) (λ l. l) (cases_lt 11 at.len)

  pub rules_give_pieces : GivesPieces (piece_in grid)
  rules_give_pieces = GivesPieces-grid (piece_at rows breaks choices) own_pieces grid is

  pub rules_possible : (order : List Piece) × IsSegmentation (piece_in grid) 0 grid.cells order
  rules_possible =
      let best = best_of-from_CanSegment rows breaks choices n can in
      let one = (IsBest-from_best_of rows breaks choices n best.0 own_pieces best.1).is_one in
      (best.0, IsSegmentation-grid (piece_at rows breaks choices) own_pieces short_pieces grid is best.0 (subst (λ k. IsSegmentation (piece_at rows breaks choices) 0 k best.0) (sym cells) one))

  pub best_by_rules : (best : List Piece) → IsBest (piece_in grid) grid.cells best → best_of rows breaks choices n ≡ Some best
  best_by_rules best h =
      best_of-from_IsBest rows breaks choices n best own_pieces
      (subst (λ k. IsBest (piece_at rows breaks choices) k best) cells (IsBest-from_grid (piece_at rows breaks choices) own_pieces short_pieces grid is best h))
