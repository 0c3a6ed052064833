-- What a buffer shows: a character for each cell, of a symbol itself, of a syllable that of its piece.
use Rattle.std.specs.Prelude.{ℕ, suc, ◌+◌, ◌-◌, Bool, ◌&&◌, List, [], ◌∷◌, ◌++◌, find, slice_get, nat_le, nat_lt, chars, encode_utf8_all, Option, option_and_then, option_to_list}
use Rattle.chew_spec_phrasing.specs.Usable.{Piece, phrase_len}
use Rattle.chew_spec_preedit.specs.Cell.{Cell, Sound, Symbol}

-- the piece has the cell at the place
abbrev pub has_cell : ℕ → Piece → Bool
has_cell place piece = nat_le piece.start place && nat_lt place (piece.start + phrase_len piece.phrase)

-- the character that the pieces show for the cell at a place
abbrev pub character_at : List Piece → ℕ → Option ℕ
character_at pieces place =
    option_and_then (λ piece. slice_get (chars piece.phrase) (place - piece.start)) (find (has_cell place) pieces)

-- the characters of cells of which the first stands at a place
abbrev pub characters_from : List Piece → ℕ → List Cell → List ℕ
characters_from pieces place [] = []
characters_from pieces place (Symbol byte ∷ cells) = byte ∷ characters_from pieces (suc place) cells
characters_from pieces place (Sound code ∷ cells) =
    option_to_list (character_at pieces place) ++ characters_from pieces (suc place) cells

-- the characters of all cells, given the pieces of all runs
unfoldable pub characters_of : List Piece → List Cell → List ℕ
characters_of pieces cells = characters_from pieces 0 cells

-- the pre-edit text
abbrev pub shown_text : List Piece → List Cell → List ℕ
shown_text pieces cells = encode_utf8_all (characters_of pieces cells)
