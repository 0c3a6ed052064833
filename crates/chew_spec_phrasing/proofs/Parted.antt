-- A break parts the pieces of every segmentation.
use Rattle.std.proofs.Common.{◌≡◌, ℕ, ◌+◌, ◌-◌, ◌<◌, ◌≤◌, Bool, true, false, not, ◌&&◌, List, [], ◌∷◌, All, Contains, Some, eqb-true, ⊎_elim, sym, refl, ap, ap₂, ◌∙◌, subst, arith}
use Rattle.std.specs.Prelude.{◌==◌, nat_lt}
use Rattle.std.specs.List.{list_any}
use Rattle.std.proofs.lemmas.Bool.{cases_lt}
use Rattle.std.proofs.lemmas.List.Elements.{All-contains}
use Rattle.std.proofs.lemmas.List.Folds.{Any-from_list_any}
use Rattle.chew_spec_dictionary.specs.Call.{Hit}
use Rattle.chew_spec_dictionary.specs.Look.{Interval}
use Rattle.chew_spec_phrasing.specs.CanSegment.{interval_of}
use Rattle.chew_spec_phrasing.specs.Segmentation.{IsSegmentation, starts}
use Rattle.chew_spec_phrasing.specs.Usable.{Choice, HaveOwnLengths, Piece, interval_end, is_exactly, is_unbroken, phrase_len, piece_at}
use Rattle.chew_spec_phrasing.proofs.Chosen.{IsByRow-from_piece_by_rows, passes_from_list_all, piece_at-other, unbroken_at}
use Rattle.chew_spec_phrasing.proofs.Membership.{Contains-head, Contains-tail}
use Rattle.chew_spec_phrasing.proofs.Search.{HasFirst-from_IsSegmentation}
use Rattle.chew_spec_phrasing.proofs.Usable.{BothTrue-from, GivesOwn-piece_at}

ends_before : (breaks : List ℕ) (at : Interval) (place : ℕ) → is_unbroken breaks at ≡ true → Contains breaks place → at.start < place → interval_end at ≤ place
ends_before breaks at place e i =
    unbroken_at at.start place (interval_end at) (passes_from_list_all (λ p. not (nat_lt at.start p && nat_lt p (interval_end at))) breaks place e i)

-- no break lies strictly inside a usable interval, where none does inside a choice
pub unbroken-piece_at : (rows : List Hit) (breaks : List ℕ) (choices : List Choice) (at : Interval) (piece : Piece) (place : ℕ) → All (λ choice. is_unbroken breaks (interval_of choice) ≡ true) choices → piece_at rows breaks choices at ≡ Some piece → Contains breaks place → at.start < place → interval_end at ≤ place
unbroken-piece_at rows breaks choices at piece place whole e i = by_test (list_any (is_exactly at) choices) refl
  where
    by_test : (b : Bool) → list_any (is_exactly at) choices ≡ b → at.start < place → interval_end at ≤ place
    by_test true x =
        let any = Any-from_list_any (is_exactly at) choices x in
        let places = BothTrue-from (any.1.start == at.start) (phrase_len any.1.phrase == at.len) any.4 in
        let own = All-contains (λ choice. is_unbroken breaks (interval_of choice) ≡ true) choices any.1 whole (any.0, any.2, any.3) in
        ends_before breaks at place
        (ap₂ (λ (start len : ℕ). is_unbroken breaks (record { start = start; len = len })) (sym (eqb-true any.1.start at.start places.first)) (sym (eqb-true (phrase_len any.1.phrase) at.len places.second)) ∙ own) i
    by_test false x =
        (IsByRow-from_piece_by_rows rows breaks choices at piece (sym (piece_at-other rows breaks choices at x) ∙ e)).unbroken place i

parted_from : (rows : List Hit) (breaks : List ℕ) (choices : List Choice) (place : ℕ) → HaveOwnLengths rows → All (λ choice. is_unbroken breaks (interval_of choice) ≡ true) choices → Contains breaks place → (pieces : List Piece) (start n : ℕ) → IsSegmentation (piece_at rows breaks choices) start n pieces → start ≤ place → place < start + n → Contains (starts pieces) place
parted_from rows breaks choices place own whole i [] start n h l m = absurd (let e = h.adds_up.whole in omega arith)
parted_from rows breaks choices place own whole i (piece ∷ pieces) start n h l m =
    let f = HasFirst-from_IsSegmentation (piece_at rows breaks choices) start n (piece ∷ pieces) (omega arith) h in
    let joined = f.joined in
    let within = f.within in
    let first : f.piece ≡ piece = cc in
    let rest : f.rest ≡ pieces = cc in
    let at : Interval = record { start = start; len = f.len } in
    let usable = f.is_usable ∙ ap Some first in
    let starts_there : piece.start ≡ start = ((GivesOwn-piece_at rows breaks choices own).own at piece usable).start in
    ⊎_elim
    (λ behind.
    let after : start + f.len ≤ place = unbroken-piece_at rows breaks choices at piece place whole usable i behind in
    Contains-tail piece.start (starts pieces) place
    (parted_from rows breaks choices place own whole i pieces (start + f.len) (n - f.len)
    (subst (IsSegmentation (piece_at rows breaks choices) (start + f.len) (n - f.len)) rest f.follows) after (omega arith)))
    (λ before.
    let same : piece.start ≡ place = omega arith in
    subst (Contains (piece.start ∷ starts pieces)) same (Contains-head piece.start (starts pieces)))
    (cases_lt start place)

-- at each break in the run a piece begins
pub parted-IsSegmentation : (rows : List Hit) (breaks : List ℕ) (choices : List Choice) (n : ℕ) (pieces : List Piece) (place : ℕ) → HaveOwnLengths rows → All (λ choice. is_unbroken breaks (interval_of choice) ≡ true) choices → IsSegmentation (piece_at rows breaks choices) 0 n pieces → Contains breaks place → place < n → Contains (starts pieces) place
parted-IsSegmentation rows breaks choices n pieces place own whole h i l =
    parted_from rows breaks choices place own whole i pieces 0 n h (omega arith) (omega arith)
