-- What is learnt of the shown pieces.
use Rattle.std.specs.Prelude.{ℕ, ◌+◌, ◌*◌, ◌/◌, Bool, true, not, ◌&&◌, List, [], ◌∷◌, ◌++◌, map, flat_map, take, drop, ◌==◌, chars, encode_utf8_all, if◌then◌else◌}
use Rattle.std.specs.List.{range_with_len}
use Rattle.chew_spec_syllable.specs.Row.{Row}
use Rattle.chew_spec_dictionary.specs.Call.{Call, Learn}
use Rattle.chew_spec_dictionary.specs.System.{freq_of, peak_of}
use Rattle.chew_spec_phrasing.specs.Usable.{Piece, phrase_len}
use Rattle.chew_spec_preedit.specs.Cell.{Cell, Sound, Symbol}
use Rattle.chew_spec_preedit.specs.Edit.{has_break}

-- the codes of the syllables among the cells
abbrev pub code_in : Cell → List ℕ
code_in (Sound code) = code ∷ []
code_in (Symbol byte) = []

-- the key of so many cells from a place on
abbrev pub key_at : List Cell → ℕ → ℕ → List ℕ
key_at cells place len = flat_map code_in (take len (drop place cells))

-- a phrase is learnt under a key with the frequency that the system has for them, and its greatest for the key
abbrev pub learn_call : List Row → List ℕ → List ℕ → Call
learn_call system key phrase = Learn key phrase (freq_of system key phrase) (peak_of system key)

-- a text that is shown from a place on, and whether it is made of pieces of one syllable
pub record Stretch : Type 0 where
  pub start : ℕ
  pub phrase : List ℕ
  pub is_single : Bool

-- a piece by itself
abbrev pub stretch_of : Piece → Stretch
stretch_of piece = record { start = piece.start; phrase = piece.phrase; is_single = phrase_len piece.phrase == 1 }

-- the second begins right behind the first, both are of single syllables, and no break parts them
abbrev pub go_together : List ℕ → Stretch → Stretch → Bool
go_together breaks first second =
    first.is_single && (second.is_single && (second.start == first.start + phrase_len first.phrase && not (has_break breaks second.start)))

-- a stretch of one piece joins those behind it, where they go together
abbrev pub with_stretch : List ℕ → Stretch → List Stretch → List Stretch
with_stretch breaks first [] = first ∷ []
with_stretch breaks first (second ∷ rest) =
    if go_together breaks first second
    then record { start = first.start; phrase = first.phrase ++ second.phrase; is_single = true } ∷ rest
    else first ∷ (second ∷ rest)

-- each piece of two or more syllables by itself, and the longest stretches of single syllables
abbrev pub stretches : List ℕ → List Piece → List Stretch
stretches breaks [] = []
stretches breaks (piece ∷ pieces) = with_stretch breaks (stretch_of piece) (stretches breaks pieces)

-- the most syllables of a phrase
abbrev pub phrase_limit : ℕ
phrase_limit = 11

-- the n-th part of a stretch, of 11 syllables from the left, counted from 0
abbrev pub part_of : List Row → List Cell → Stretch → ℕ → Call
part_of system cells stretch n =
    let phrase = encode_utf8_all (take phrase_limit (drop (phrase_limit * n) (chars stretch.phrase))) in
    learn_call system (key_at cells (stretch.start + phrase_limit * n) (phrase_len phrase)) phrase

-- the learns of a stretch, in parts of 11 syllables
unfoldable pub learns_of : List Row → List Cell → Stretch → List Call
learns_of system cells stretch =
    map (part_of system cells stretch) (range_with_len 0 ((phrase_len stretch.phrase + 10) / phrase_limit))

-- what Enter learns, from left to right
unfoldable pub learns : List Row → List Cell → List ℕ → List Piece → List Call
learns system cells breaks pieces = flat_map (learns_of system cells) (stretches breaks pieces)
