-- A search through all segmentations: piece by piece, with the best so far.
use Rattle.std.proofs.Common.{◌≡◌, ℕ, ◌+◌, ◌-◌, ◌<◌, ◌≤◌, false, List, [], ◌∷◌, Option, Some, None, is_lt, ◌⊎◌, ⊎_elim, sym, refl, ap, ◌∙◌, subst, arith}
use Rattle.std.proofs.lemmas.Option.{none-some, same_Some}
use Rattle.chew_spec_dictionary.specs.Call.{Hit}
use Rattle.chew_spec_dictionary.specs.Look.{Interval}
use Rattle.chew_spec_phrasing.specs.Best.{best_of, segmentation_cmp}
use Rattle.chew_spec_phrasing.specs.Search.{HasFirst, Improves, IsCompletion}
use Rattle.chew_spec_phrasing.specs.Segmentation.{AddsUp, GivesOwn, IsSegmentation, lengths, pieces_from}
use Rattle.chew_spec_phrasing.specs.Usable.{Choice, Piece, phrase_len, piece_at}
use Rattle.chew_spec_phrasing.proofs.Best.{best_of-from_IsBest, best_of-from_none}
use Rattle.chew_spec_phrasing.proofs.Lengths.{AddsUp-none, AddsUp-cons, AddsUp-rest}
use Rattle.chew_spec_phrasing.proofs.Pieces.{pieces_from-cons, pieces_from-split}

-- no pieces are a segmentation of no syllables
pub IsSegmentation-none : (usable : Interval → Option Piece) (start : ℕ) → IsSegmentation usable start 0 []
IsSegmentation-none usable start = record { adds_up = AddsUp-none; are_usable = refl }

-- and they are the only one
pub none_from_IsSegmentation : (usable : Interval → Option Piece) (start : ℕ) (pieces : List Piece) → IsSegmentation usable start 0 pieces → pieces ≡ []
none_from_IsSegmentation usable start [] h = refl
none_from_IsSegmentation usable start (piece ∷ pieces) h =
    absurd (let rest = AddsUp-rest (phrase_len piece.phrase) 0 (lengths pieces) h.adds_up in omega arith)

-- a piece and a segmentation from where it ends
pub IsSegmentation-cons : (usable : Interval → Option Piece) → GivesOwn usable → (start len n : ℕ) (piece : Piece) (rest : List Piece) → 1 ≤ len → usable (record { start = start; len = len }) ≡ Some piece → IsSegmentation usable (start + len) n rest → IsSegmentation usable start (len + n) (piece ∷ rest)
IsSegmentation-cons usable own start len n piece rest l is h =
    let same = (own.own (record { start = start; len = len }) piece is).len in
    record {
      adds_up = subst (λ k. AddsUp (len + n) (k ∷ lengths rest)) (sym same) (AddsUp-cons len n (lengths rest) l h.adds_up);
      are_usable = ap (λ k. pieces_from usable start (k ∷ lengths rest)) same
          ∙ pieces_from-cons usable start len (lengths rest) piece rest is h.are_usable;
    }

-- a segmentation is a piece and a segmentation from where it ends
pub HasFirst-from_IsSegmentation : (usable : Interval → Option Piece) (start n : ℕ) (pieces : List Piece) → 0 < n → IsSegmentation usable start n pieces → HasFirst usable start n pieces
HasFirst-from_IsSegmentation usable start n [] l h = absurd (let e = h.adds_up.whole in omega arith)
HasFirst-from_IsSegmentation usable start n (piece ∷ pieces) l h =
    let len = phrase_len piece.phrase in
    let rest = AddsUp-rest len n (lengths pieces) h.adds_up in
    let s = pieces_from-split usable start len (lengths pieces) (piece ∷ pieces) h.are_usable in
    let joined = s.joined in
    let first : s.piece ≡ piece = cc in
    let others : s.others ≡ pieces = cc in
    record {
      len = len;
      piece = piece;
      rest = pieces;
      from_one = rest.0;
      within = omega arith;
      is_usable = s.is_usable ∙ ap Some first;
      follows = record {
        adds_up = subst (λ k. AddsUp k (lengths pieces)) (omega arith) rest.2;
        are_usable = s.rest ∙ ap Some others;
      };
      joined = refl;
    }

-- and the other way round
pub IsSegmentation-from_HasFirst : (usable : Interval → Option Piece) → GivesOwn usable → (start n : ℕ) (pieces : List Piece) → HasFirst usable start n pieces → IsSegmentation usable start n pieces
IsSegmentation-from_HasFirst usable own start n pieces h =
    let within = h.within in
    let whole : h.len + (n - h.len) ≡ n = omega arith in
    subst (IsSegmentation usable start n) (sym h.joined)
    (subst (λ k. IsSegmentation usable start k (h.piece ∷ h.rest)) whole
    (IsSegmentation-cons usable own start h.len (n - h.len) h.piece h.rest h.from_one h.is_usable h.follows))

-- before any piece every segmentation may follow
pub IsCompletion-start : (usable : Interval → Option Piece) (n : ℕ) (pieces : List Piece) → IsSegmentation usable 0 n pieces → IsCompletion usable [] 0 n pieces
IsCompletion-start usable n pieces h = record { rest = pieces; follows = h; joined = refl }

pub IsSegmentation-from_IsCompletion : (usable : Interval → Option Piece) (start n : ℕ) (pieces : List Piece) → IsCompletion usable [] start n pieces → IsSegmentation usable start n pieces
IsSegmentation-from_IsCompletion usable start n pieces h = subst (IsSegmentation usable start n) (sym h.joined) h.follows

-- what a search from the start holds is the best
pub best_of-from_Improves : (rows : List Hit) (breaks : List ℕ) (choices : List Choice) (n : ℕ) (held : Option (List Piece)) → GivesOwn (piece_at rows breaks choices) → Improves (IsCompletion (piece_at rows breaks choices) [] 0 n) None held → best_of rows breaks choices n ≡ held
best_of-from_Improves rows breaks choices n None own h =
    best_of-from_none rows breaks choices n own
    (λ pieces i. none-some (h.unbeaten pieces (IsCompletion-start (piece_at rows breaks choices) n pieces i)).top (h.unbeaten pieces (IsCompletion-start (piece_at rows breaks choices) n pieces i)).is)
best_of-from_Improves rows breaks choices n (Some best) own h =
    best_of-from_IsBest rows breaks choices n best own (record {
      is_one = ⊎_elim (λ old. absurd (none-some best old)) (λ new. IsSegmentation-from_IsCompletion (piece_at rows breaks choices) 0 n best new) (h.one best refl);
      unbeaten = λ other i.
          let k = h.unbeaten other (IsCompletion-start (piece_at rows breaks choices) n other i) in
          subst (λ top. is_lt (segmentation_cmp top other) ≡ false) (sym (same_Some best k.top k.is)) k.unbeaten;
    })
