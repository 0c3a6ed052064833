-- The steps over what is left of a map and of the marks over it.
use Rattle.std.proofs.Common.{◌≡◌, ◌+◌, ◌<◌, true, List, [], ◌∷◌, length, ap, ap₂, sym, ◌∙◌, Less, Equal, Greater, is_lt, is_eq, Option, Some, None, option_map, true≢false, arith}
use Rattle.std.specs.List.{list_all}
use Rattle.std.specs.Option.{MatchOption}
use Rattle.std.proofs.lemmas.Bool.{and_parts}
use Rattle.chew_spec_syllable.specs.Row.{Row, image_cmp}
use Rattle.chew_spec_dictionary.specs.Dictionary.{is_map}
use Rattle.chew_spec_layers.specs.Mark.{Marked, is_layer, is_proper_mark, marked_cmp, row_of_mark}
use Rattle.chew_spec_layers.specs.Overlay.{overlay}
use Rattle.chew_spec_layers.proofs.Overlays.{overlay_nothing}
use Rattle.chew_merge.specs.Rest.{IsSound, IsStep, Rest, ahead, before, first_cmp, rows_together}
use Rattle.chew_merge.proofs.Overlaying.{mark_comes_first, row_comes_first, row_is_hidden}

-- what `next` of an iterator gave of a list, and what it left
abbrev pub Takes : {X : Type 0} → Option X → List X → List X → Type 0
Takes given old new = MatchOption given ((old ≡ []) × (new ≡ [])) (λ x. old ≡ x ∷ new)

-- what was taken ahead stands before what is left
pub ahead_again : {X Y : Type 0} (view : Y → X) (given : Option Y) (old new : List X) → MatchOption given ((old ≡ []) × (new ≡ [])) (λ y. old ≡ view y ∷ new) → ahead (option_map view given) new ≡ old
ahead_again view None old new t = sym t.0
ahead_again view (Some y) old new t = sym t

-- what follows the first mark is sound too
pub sound_behind : (rows : List Row) (first : Option Marked) (rest : List Marked) (m : Marked) (ms : List Marked) → ahead first rest ≡ m ∷ ms → IsSound (record { rows = rows; marks = ahead first rest })
    → IsSound (record { rows = rows; marks = rest })
sound_behind rows None rest m ms e s = absurd (let none : List Marked = [] in let n : length none ≡ length (m ∷ ms) = ap length e in omega (arith, n))
sound_behind rows (Some first) rest m ms e s = record {
  map = s.map;
  rows = s.rows;
  layer = (and_parts (list_all (λ later. is_lt (marked_cmp first later)) rest) (is_layer rest) s.layer).1;
  proper = (and_parts (is_proper_mark first) (list_all is_proper_mark rest) s.proper).1;
}

-- the first row is below the first mark
pub row_step : (given : Option Row) (old new : Rest) (m : Marked) (ms : List Marked) → IsSound old → old.marks ≡ m ∷ ms → first_cmp old.rows m ≡ Less → Takes given old.rows new.rows → new.marks ≡ old.marks
    → IsStep old given new
row_step None old new m ms s first less t kept = absurd (true≢false (ap is_lt (sym less ∙ ap (λ (rows : List Row). first_cmp rows m) t.0)))
row_step (Some row) old new m ms s first less t kept =
    let marks : new.marks ≡ m ∷ ms = kept ∙ first in
    record {
      some = ap₂ overlay t first
          ∙ row_comes_first row new.rows m ms (ap is_map (sym t) ∙ s.map) (ap is_layer (sym first) ∙ s.layer) (ap (λ (rows : List Row). first_cmp rows m) (sym t) ∙ less)
          ∙ ap (λ (l : List Marked). row ∷ overlay new.rows l) (sym marks);
      none = tt;
      fewer = let a = ap length t in let b = ap length kept in omega (arith, a, b);
    }

-- the first row has the first mark's pair
pub hidden_step : (given : Option Row) (old new : Rest) (m : Marked) (ms : List Marked) → old.marks ≡ m ∷ ms → first_cmp old.rows m ≡ Equal → Takes given old.rows new.rows → new.marks ≡ old.marks → IsStep old None new
hidden_step None old new m ms first tie t kept = absurd (true≢false (ap is_eq (sym tie ∙ ap (λ (rows : List Row). first_cmp rows m) t.0)))
hidden_step (Some row) old new m ms first tie t kept =
    let marks : new.marks ≡ m ∷ ms = kept ∙ first in
    record {
      some = tt;
      none = ap (overlay new.rows) marks
          ∙ sym (row_is_hidden row new.rows m ms (ap (λ (rows : List Row). first_cmp rows m) (sym t) ∙ tie))
          ∙ sym (ap₂ overlay t first);
      fewer = let a = ap length t in let b = ap length kept in omega (arith, a, b);
    }

-- the first mark is below all rows
pub mark_step : (given : Option Row) (old new : Rest) (m : Marked) (ms : List Marked) → IsSound old → old.marks ≡ m ∷ ms → first_cmp old.rows m ≡ Greater → given ≡ row_of_mark m.key m.phrase m.mark
    → old.marks ≡ m ∷ new.marks → new.rows ≡ old.rows → IsStep old given new
mark_step given old new m ms s first greater e t kept =
    let together = ap (overlay old.rows) t
    ∙ mark_comes_first old.rows m new.marks s.map (ap is_layer (sym t) ∙ s.layer) greater
    ∙ ap₂ (λ (o : Option Row) (rows : List Row). before o (overlay rows new.marks)) (sym e) (sym kept) in
    by given together
  where
    less : length new.rows + length new.marks < length old.rows + length old.marks
    less = let a = ap length t in let b = ap length kept in omega (arith, a, b)

    by : (given : Option Row) → rows_together old ≡ before given (rows_together new) → IsStep old given new
    by None together = record { some = tt; none = sym together; fewer = less }
    by (Some row) together = record { some = together; none = tt; fewer = less }

-- where no mark is left, the rows are those of the map
pub last_rows : (given : Option Row) (first left new : Rest) → rows_together left ≡ rows_together first → IsSound left → left.marks ≡ [] → Takes given left.rows new.rows → new.marks ≡ left.marks
    → Takes given (rows_together first) (rows_together new)
last_rows given first left new same s none t kept = by given t
  where
    alone : rows_together first ≡ left.rows
    alone = sym same ∙ ap (overlay left.rows) none ∙ overlay_nothing left.rows s.map

    others_alone : is_map new.rows ≡ true → rows_together new ≡ new.rows
    others_alone m = ap (overlay new.rows) (kept ∙ none) ∙ overlay_nothing new.rows m

    by : (given : Option Row) → Takes given left.rows new.rows → Takes given (rows_together first) (rows_together new)
    by None t = (alone ∙ t.0, others_alone (ap is_map t.1) ∙ t.1)
    by (Some row) t =
        let rest = and_parts (list_all (λ later. is_lt (image_cmp row later)) new.rows) (is_map new.rows) (ap is_map (sym t) ∙ s.map) in
        alone ∙ t ∙ ap (λ (rows : List Row). row ∷ rows) (sym (others_alone rest.1))
