-- The stretches that are learnt, by their places in the buffer.
use Rattle.std.specs.Prelude.{◌≡◌, ℕ, ◌+◌, ◌-◌, ◌*◌, ◌/◌, ◌<◌, ◌≤◌, Bool, true, not, ◌&&◌, List, [], ◌∷◌, map, flat_map, take, drop, length, encode_utf8_all, ◌==◌, if◌then◌else◌}
use Rattle.std.specs.List.{range_with_len}
use Rattle.chew_spec_syllable.specs.Row.{Row, is_pair}
use Rattle.chew_spec_dictionary.specs.Call.{Call}
use Rattle.chew_spec_phrasing.specs.Usable.{Piece, phrase_len}
use Rattle.chew_spec_preedit.specs.Cell.{Cell}
use Rattle.chew_spec_preedit.specs.Edit.{has_break}
use Rattle.chew_spec_editor.specs.Learning.{code_in, learn_call, phrase_limit}

-- from a place up to another, and whether it is made of pieces of one syllable
pub record Span : Type 0 where
  pub start : ℕ
  pub end : ℕ
  pub is_single : Bool

-- a piece by itself
abbrev pub span_of : Piece → Span
span_of piece = record { start = piece.start; end = piece.start + phrase_len piece.phrase; is_single = phrase_len piece.phrase == 1 }

-- the piece begins right behind the span, both are of single syllables, and no break parts them
abbrev pub goes_on : List ℕ → Span → Piece → Bool
goes_on breaks span piece =
    span.is_single && ((phrase_len piece.phrase == 1) && ((piece.start == span.end) && not (has_break breaks piece.start)))

-- with a piece of one syllable more
abbrev pub longer : Span → Piece → Span
longer span piece = record { start = span.start; end = piece.start + phrase_len piece.phrase; is_single = true }

-- each piece of two or more syllables by itself, and the longest spans of single syllables
unfoldable pub spans_from : List ℕ → Span → List Piece → List Span
spans_from breaks span [] = span ∷ []
spans_from breaks span (piece ∷ pieces) =
    if goes_on breaks span piece then spans_from breaks (longer span piece) pieces else span ∷ spans_from breaks (span_of piece) pieces

-- what a list has from a span's start up to its end
abbrev pub part_in : {X : Type 0} → Span → List X → List X
part_in span xs = take (span.end - span.start) (drop span.start xs)

-- the n-th eleven of a list, counted from 0
abbrev pub eleven : {X : Type 0} → ℕ → List X → List X
eleven n xs = take phrase_limit (drop (phrase_limit * n) xs)

-- the learn of cells as they are shown
abbrev pub learn_of : List Row → List Cell → List ℕ → Call
learn_of system cells shown = learn_call system (flat_map code_in cells) (encode_utf8_all shown)

-- their learns in parts of 11
unfoldable pub learns_in : List Row → List Cell → List ℕ → List Call
learns_in system cells shown =
    map (λ n. learn_of system (eleven n cells) (eleven n shown)) (range_with_len 0 ((length cells + 10) / phrase_limit))

-- the learns of the spans that a span and pieces make
abbrev pub learns_from : List Row → List ℕ → List Cell → List ℕ → Span → List Piece → List Call
learns_from system breaks cells shown span pieces =
    flat_map (λ s. learns_in system (part_in s cells) (part_in s shown)) (spans_from breaks span pieces)

-- each part of the cells may be learnt as it is shown
pub record ArePairs (cells : List Cell) (shown : List ℕ) : Type 0 where
  pub count : length shown ≡ length cells
  pub each : (n : ℕ) → phrase_limit * n < length cells → is_pair (flat_map code_in (eleven n cells)) (encode_utf8_all (eleven n shown)) ≡ true

-- so may those of a span
pub record IsSpan (cells : List Cell) (shown : List ℕ) (span : Span) : Type 0 where
  pub in_order : span.start ≤ span.end
  pub within : span.end ≤ length cells
  pub within_shown : span.end ≤ length shown
  pub pairs : ArePairs (part_in span cells) (part_in span shown)
