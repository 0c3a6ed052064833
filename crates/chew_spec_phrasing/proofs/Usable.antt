-- What a usable interval gives.
use Rattle.std.proofs.Common.{◌≡◌, ℕ, Bool, true, false, cond, ◌&&◌, List, [], ◌∷◌, Contains, find, Option, Some, None, option_map, eqb-true, sym, refl, ap, ◌∙◌, subst}
use Rattle.std.specs.Prelude.{◌==◌, nat_le}
use Rattle.std.specs.Option.{option_map_or}
use Rattle.std.proofs.lemmas.Bool.{and_parts}
use Rattle.std.proofs.lemmas.List.Elements.{All-cons, All-contains, All-nil}
use Rattle.std.proofs.lemmas.Option.{none-some, same_Some}
use Rattle.chew_spec_dictionary.specs.Call.{Hit}
use Rattle.chew_spec_dictionary.specs.Look.{Interval}
use Rattle.chew_spec_phrasing.specs.CombinedRows.{is_hit_at}
use Rattle.chew_spec_phrasing.specs.Usable.{Choice, HaveOwnLengths, IsFirst, Piece, first_row, is_exactly, is_unbroken, keeps_choices, phrase_len, piece_at, piece_by_rows, piece_of_choice, piece_of_hit}
use Rattle.chew_spec_phrasing.specs.Segmentation.{GivesOwn, IsOf}
use Rattle.chew_spec_phrasing.proofs.Membership.{Contains-head, Contains-tail}

-- an element that passes a test
pub record Passes {X : Type 0} (p : X → Bool) (xs : List X) (x : X) : Type 0 where
  pub among : Contains xs x
  pub passes : p x ≡ true

found_at : {X : Type 0} (p : X → Bool) (b : Bool) (z : X) (zs : List X) (x : X) → p z ≡ b → (find p zs ≡ Some x → Passes p zs x) → cond b (Some z) (find p zs) ≡ Some x → Passes p (z ∷ zs) x
found_at p true z zs x e rest h =
    let same = same_Some z x h in
    record { among = subst (Contains (z ∷ zs)) same (Contains-head z zs); passes = ap p (sym same) ∙ e }
found_at p false z zs x e rest h =
    let r = rest h in
    record { among = Contains-tail z zs x r.among; passes = r.passes }

-- what is found is an element that passes
pub Passes-from_find : {X : Type 0} (p : X → Bool) (xs : List X) (x : X) → find p xs ≡ Some x → Passes p xs x
Passes-from_find p [] x e = absurd (none-some x e)
Passes-from_find p (z ∷ zs) x e = found_at p (p z) z zs x refl (Passes-from_find p zs x) e

first_at : {X : Type 0} (p : X → Bool) (b : Bool) (z : X) (zs : List X) (x : X) → p z ≡ b → (find p zs ≡ Some x → IsFirst p zs x) → cond b (Some z) (find p zs) ≡ Some x → IsFirst p (z ∷ zs) x
first_at p true z zs x e rest h =
    let same = same_Some z x h in
    record { before = []; after = zs; parts = ap (λ y. y ∷ zs) same; passes = ap p (sym same) ∙ e; none_before = All-nil (λ y. p y ≡ false) }
first_at p false z zs x e rest h =
    let r = rest h in
    record {
      before = z ∷ r.before;
      after = r.after;
      parts = ap (λ ys. z ∷ ys) r.parts;
      passes = r.passes;
      none_before = All-cons (λ y. p y ≡ false) z r.before e r.none_before;
    }

-- and the first that does
pub IsFirst-from_find : {X : Type 0} (p : X → Bool) (xs : List X) (x : X) → find p xs ≡ Some x → IsFirst p xs x
IsFirst-from_find p [] x e = absurd (none-some x e)
IsFirst-from_find p (z ∷ zs) x e = first_at p (p z) z zs x refl (IsFirst-from_find p zs x) e

-- a row that keeps the choices is the piece, and the first that does
abbrev pub FirstRow : List Hit → List Choice → Interval → Piece → Type 0
FirstRow rows choices at piece = (row : Hit) × IsFirst (λ hit. is_hit_at at hit && keeps_choices choices at hit.phrase) rows row × (piece ≡ piece_of_hit row)

first_of_rows : (rows : List Hit) (choices : List Choice) (at : Interval) (piece : Piece) (o : Option Hit) → first_row rows choices at ≡ o → option_map piece_of_hit o ≡ Some piece → FirstRow rows choices at piece
first_of_rows rows choices at piece None is e = absurd (none-some piece e)
first_of_rows rows choices at piece (Some hit) is e =
    (hit, IsFirst-from_find (λ row. is_hit_at at row && keeps_choices choices at row.phrase) rows hit is, sym (same_Some (piece_of_hit hit) piece e))

-- the piece of an interval by its rows is the first of them that keeps the choices
pub first-from_piece_by_rows : (rows : List Hit) (breaks : List ℕ) (choices : List Choice) (at : Interval) (piece : Piece) → piece_by_rows rows breaks choices at ≡ Some piece → FirstRow rows choices at piece
first-from_piece_by_rows rows breaks choices at piece e = by_test (nat_le at.len 11 && is_unbroken breaks at) e
  where
    by_test : (b : Bool) → cond b (option_map piece_of_hit (first_row rows choices at)) None ≡ Some piece → FirstRow rows choices at piece
    by_test true e = first_of_rows rows choices at piece (first_row rows choices at) refl e
    by_test false e = absurd (none-some piece e)

-- a test of two tests has both
pub record BothTrue (a b : Bool) : Type 0 where
  pub first : a ≡ true
  pub second : b ≡ true

pub BothTrue-from : (a b : Bool) → (a && b) ≡ true → BothTrue a b
BothTrue-from a b e = let parts = and_parts a b e in record { first = parts.0; second = parts.1 }

IsOf-hit : (at : Interval) (hit : Hit) (b : Bool) → phrase_len hit.phrase ≡ hit.len → (is_hit_at at hit && b) ≡ true → IsOf at (piece_of_hit hit)
IsOf-hit at hit b own e =
    let test = BothTrue-from (is_hit_at at hit) b e in
    let places = BothTrue-from (hit.start == at.start) (hit.len == at.len) test.first in
    record { start = eqb-true hit.start at.start places.first; len = own ∙ eqb-true hit.len at.len places.second }

IsOf-choice : (at : Interval) (choice : Choice) → is_exactly at choice ≡ true → IsOf at (piece_of_choice choice)
IsOf-choice at choice e =
    let places = BothTrue-from (choice.start == at.start) (phrase_len choice.phrase == at.len) e in
    record { start = eqb-true choice.start at.start places.first; len = eqb-true (phrase_len choice.phrase) at.len places.second }

from_row : (rows : List Hit) (choices : List Choice) (at : Interval) (piece : Piece) → HaveOwnLengths rows → (o : Option Hit) → first_row rows choices at ≡ o → option_map piece_of_hit o ≡ Some piece → IsOf at piece
from_row rows choices at piece own None is e = absurd (none-some piece e)
from_row rows choices at piece own (Some hit) is e =
    let found = Passes-from_find (λ row. is_hit_at at row && keeps_choices choices at row.phrase) rows hit is in
    subst (IsOf at) (same_Some (piece_of_hit hit) piece e)
    (IsOf-hit at hit (keeps_choices choices at hit.phrase)
    (All-contains (λ row. phrase_len row.phrase ≡ row.len) rows hit own found.among) found.passes)

from_rows : (rows : List Hit) (choices : List Choice) (at : Interval) (piece : Piece) → HaveOwnLengths rows → (b : Bool) → cond b (option_map piece_of_hit (first_row rows choices at)) None ≡ Some piece → IsOf at piece
from_rows rows choices at piece own true e = from_row rows choices at piece own (first_row rows choices at) refl e
from_rows rows choices at piece own false e = absurd (none-some piece e)

from_choice : (rows : List Hit) (breaks : List ℕ) (choices : List Choice) (at : Interval) (piece : Piece) → HaveOwnLengths rows → (o : Option Choice) → find (is_exactly at) choices ≡ o → option_map_or (λ choice. Some (piece_of_choice choice)) o (piece_by_rows rows breaks choices at) ≡ Some piece → IsOf at piece
from_choice rows breaks choices at piece own None is e =
    from_rows rows choices at piece own (nat_le at.len 11 && is_unbroken breaks at) e
from_choice rows breaks choices at piece own (Some choice) is e =
    let found = Passes-from_find (is_exactly at) choices choice is in
    subst (IsOf at) (same_Some (piece_of_choice choice) piece e) (IsOf-choice at choice found.passes)

-- a usable interval has a piece of its own, where each row has as many characters as its length
pub GivesOwn-piece_at : (rows : List Hit) (breaks : List ℕ) (choices : List Choice) → HaveOwnLengths rows → GivesOwn (piece_at rows breaks choices)
unfolding piece_at
GivesOwn-piece_at rows breaks choices own = record {
  own = λ at piece e. from_choice rows breaks choices at piece own (find (is_exactly at) choices) refl e;
}
