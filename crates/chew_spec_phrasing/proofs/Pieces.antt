-- The pieces of a segmentation.
use Rattle.std.proofs.Common.{◌≡◌, ℕ, suc, ◌+◌, List, [], ◌∷◌, length, filter_map, Contains, Option, Some, None, option_and_then, option_map, sym, refl, ap, ◌∙◌, subst}
use Rattle.std.proofs.lemmas.Option.{none-some, same_Some}
use Rattle.chew_spec_dictionary.specs.Look.{Interval}
use Rattle.chew_spec_phrasing.specs.Usable.{Piece}
use Rattle.chew_spec_phrasing.specs.Segmentation.{AddsUp, GivesOwn, IsSegmentation, lengths, lengths_of, pieces_from, segmentations, starts, starts_from}
use Rattle.chew_spec_phrasing.proofs.Membership.{Contains-filter_map, Contains-from_filter_map}
use Rattle.chew_spec_phrasing.proofs.Lengths.{AddsUp-from_lengths_of, Contains-lengths_of}

-- the first piece and the others, of the pieces of these lengths
pub record Split (usable : Interval → Option Piece) (start len : ℕ) (lens : List ℕ) (pieces : List Piece) : Type 0 where
  pub piece : Piece
  pub others : List Piece
  pub is_usable : usable (record { start = start; len = len }) ≡ Some piece
  pub rest : pieces_from usable (start + len) lens ≡ Some others
  pub joined : pieces ≡ piece ∷ others

record Both (o : Option Piece) (r : Option (List Piece)) (pieces : List Piece) : Type 0 where
  piece : Piece
  others : List Piece
  first : o ≡ Some piece
  rest : r ≡ Some others
  joined : pieces ≡ piece ∷ others

both : (o : Option Piece) (r : Option (List Piece)) (pieces : List Piece) → option_and_then (λ piece. option_map (λ others. piece ∷ others) r) o ≡ Some pieces → Both o r pieces
both None r pieces e = absurd (none-some pieces e)
both (Some piece) None pieces e = absurd (none-some pieces e)
both (Some piece) (Some others) pieces e =
    record { piece = piece; others = others; first = refl; rest = refl; joined = sym (same_Some (piece ∷ others) pieces e) }

pub pieces_from-split : (usable : Interval → Option Piece) (start len : ℕ) (lens : List ℕ) (pieces : List Piece) → pieces_from usable start (len ∷ lens) ≡ Some pieces → Split usable start len lens pieces
pieces_from-split usable start len lens pieces e =
    let b = both (usable (record { start = start; len = len })) (pieces_from usable (start + len) lens) pieces e in
    record { piece = b.piece; others = b.others; is_usable = b.first; rest = b.rest; joined = b.joined }

-- a usable interval's piece before the pieces that follow it
pub pieces_from-cons : (usable : Interval → Option Piece) (start len : ℕ) (lens : List ℕ) (piece : Piece) (others : List Piece) → usable (record { start = start; len = len }) ≡ Some piece → pieces_from usable (start + len) lens ≡ Some others → pieces_from usable start (len ∷ lens) ≡ Some (piece ∷ others)
pieces_from-cons usable start len lens piece others e f =
    ap (option_and_then (λ first. option_map (λ rest. first ∷ rest) (pieces_from usable (start + len) lens))) e
    ∙ ap (option_map (λ rest. piece ∷ rest)) f

-- as many pieces as lengths
pub length-pieces_from : (usable : Interval → Option Piece) (start : ℕ) (lens : List ℕ) (pieces : List Piece) → pieces_from usable start lens ≡ Some pieces → length pieces ≡ length lens
length-pieces_from usable start [] pieces e = ap length (sym (same_Some [] pieces e))
length-pieces_from usable start (len ∷ lens) pieces e =
    let s = pieces_from-split usable start len lens pieces e in
    ap length s.joined ∙ ap suc (length-pieces_from usable (start + len) lens s.others s.rest)

-- pieces of their own intervals have these lengths
pub lengths-pieces_from : (usable : Interval → Option Piece) → GivesOwn usable → (start : ℕ) (lens : List ℕ) (pieces : List Piece) → pieces_from usable start lens ≡ Some pieces → lengths pieces ≡ lens
lengths-pieces_from usable own start [] pieces e = ap lengths (sym (same_Some [] pieces e))
lengths-pieces_from usable own start (len ∷ lens) pieces e =
    let s = pieces_from-split usable start len lens pieces e in
    let is_of = own.own (record { start = start; len = len }) s.piece s.is_usable in
    ap lengths s.joined ∙ (ap (λ x. x ∷ lengths s.others) is_of.len
    ∙ ap (λ xs. len ∷ xs) (lengths-pieces_from usable own (start + len) lens s.others s.rest))

-- and each starts where the one before it ends
pub starts-pieces_from : (usable : Interval → Option Piece) → GivesOwn usable → (start : ℕ) (lens : List ℕ) (pieces : List Piece) → pieces_from usable start lens ≡ Some pieces → starts pieces ≡ starts_from start lens
starts-pieces_from usable own start [] pieces e = ap starts (sym (same_Some [] pieces e))
starts-pieces_from usable own start (len ∷ lens) pieces e =
    let s = pieces_from-split usable start len lens pieces e in
    let is_of = own.own (record { start = start; len = len }) s.piece s.is_usable in
    ap starts s.joined ∙ (ap (λ x. x ∷ starts s.others) is_of.start
    ∙ ap (λ xs. start ∷ xs) (starts-pieces_from usable own (start + len) lens s.others s.rest))

-- a segmentation among all of them, and the other way round
pub IsSegmentation-from_filter_map : (usable : Interval → Option Piece) → GivesOwn usable → (start n : ℕ) (pieces : List Piece) → Contains (filter_map (pieces_from usable start) (lengths_of n)) pieces → IsSegmentation usable start n pieces
IsSegmentation-from_filter_map usable own start n pieces i =
    let from = Contains-from_filter_map (pieces_from usable start) (lengths_of n) pieces i in
    let same = lengths-pieces_from usable own start from.0 pieces from.2 in
    record {
      adds_up = subst (AddsUp n) (sym same) (AddsUp-from_lengths_of n from.0 from.1);
      are_usable = ap (pieces_from usable start) same ∙ from.2;
    }

pub Contains-filter_map-pieces_from : (usable : Interval → Option Piece) (start n : ℕ) (pieces : List Piece) → IsSegmentation usable start n pieces → Contains (filter_map (pieces_from usable start) (lengths_of n)) pieces
Contains-filter_map-pieces_from usable start n pieces h =
    Contains-filter_map (pieces_from usable start) (lengths_of n) (lengths pieces) pieces
    (Contains-lengths_of n (lengths pieces) h.adds_up) h.are_usable

pub IsSegmentation-from_segmentations : (usable : Interval → Option Piece) → GivesOwn usable → (n : ℕ) (pieces : List Piece) → Contains (segmentations usable n) pieces → IsSegmentation usable 0 n pieces
IsSegmentation-from_segmentations usable own n pieces i = IsSegmentation-from_filter_map usable own 0 n pieces i

pub Contains-segmentations : (usable : Interval → Option Piece) (n : ℕ) (pieces : List Piece) → IsSegmentation usable 0 n pieces → Contains (segmentations usable n) pieces
Contains-segmentations usable n pieces h = Contains-filter_map-pieces_from usable 0 n pieces h

-- the lengths of a segmentation fix its pieces
pub IsSegmentation-unique : (usable : Interval → Option Piece) (start n : ℕ) (pieces other : List Piece) → IsSegmentation usable start n pieces → IsSegmentation usable start n other → lengths pieces ≡ lengths other → pieces ≡ other
IsSegmentation-unique usable start n pieces other h i e =
    same_Some pieces other (sym h.are_usable ∙ (ap (pieces_from usable start) e ∙ i.are_usable))
