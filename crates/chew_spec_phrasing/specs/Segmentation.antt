-- Segmentations of a run: lists of lengths that add up to the run's, each of its intervals usable.
use Rattle.std.specs.Prelude.{◌≡◌, ℕ, zero, suc, ◌+◌, ◌≤◌, List, [], ◌∷◌, sum, All, map, flat_map, filter_map, Option, Some}
use Rattle.std.specs.Option.{option_and_then, option_map}
use Rattle.chew_spec_dictionary.specs.Look.{Interval}
use Rattle.chew_spec_phrasing.specs.Usable.{Piece, phrase_len}

-- a list of lengths made one syllable longer, at its front: in a piece of its own, or in the first piece
abbrev pub extended : List ℕ → List (List ℕ)
extended [] = (1 ∷ []) ∷ []
extended (len ∷ lens) = (1 ∷ (len ∷ lens)) ∷ ((suc len ∷ lens) ∷ [])

-- all lists of lengths from 1 that add up to n
abbrev pub lengths_of : ℕ → List (List ℕ)
lengths_of zero = [] ∷ []
lengths_of (suc n) = flat_map extended (lengths_of n)

-- lengths from 1 that add up to n
pub record AddsUp (n : ℕ) (lens : List ℕ) : Type 0 where
  pub whole : sum lens ≡ n
  pub each : All (λ len. 1 ≤ len) lens

-- where pieces of these lengths start, one behind the other
abbrev pub starts_from : ℕ → List ℕ → List ℕ
starts_from start [] = []
starts_from start (len ∷ lens) = start ∷ starts_from (start + len) lens

-- the lengths, the frequencies and the starts of pieces
abbrev pub lengths : List Piece → List ℕ
lengths pieces = map (λ piece. phrase_len piece.phrase) pieces

abbrev pub freqs : List Piece → List ℕ
freqs pieces = map (λ piece. piece.freq) pieces

abbrev pub starts : List Piece → List ℕ
starts pieces = map (λ piece. piece.start) pieces

-- the pieces of these lengths from start on, where each interval is usable
abbrev pub pieces_from : (Interval → Option Piece) → ℕ → List ℕ → Option (List Piece)
pieces_from usable start [] = Some []
pieces_from usable start (len ∷ lens) =
    option_and_then (λ piece. option_map (λ pieces. piece ∷ pieces) (pieces_from usable (start + len) lens))
    (usable (record { start = start; len = len }))

-- all segmentations of a run of n syllables
abbrev pub segmentations : (Interval → Option Piece) → ℕ → List (List Piece)
segmentations usable n = filter_map (pieces_from usable 0) (lengths_of n)

-- the piece starts where the interval does, and is as long
pub record IsOf (at : Interval) (piece : Piece) : Type 0 where
  pub start : piece.start ≡ at.start
  pub len : phrase_len piece.phrase ≡ at.len

-- each interval that is usable gives a piece of its own
pub record GivesOwn (usable : Interval → Option Piece) : Type 0 where
  pub own : (at : Interval) (piece : Piece) → usable at ≡ Some piece → IsOf at piece

-- the pieces are a segmentation of n syllables from start on
pub record IsSegmentation (usable : Interval → Option Piece) (start n : ℕ) (pieces : List Piece) : Type 0 where
  pub adds_up : AddsUp n (lengths pieces)
  pub are_usable : pieces_from usable start (lengths pieces) ≡ Some pieces
