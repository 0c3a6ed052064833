-- How many cells lead the buffer of an editor.
use Rattle.std.specs.Prelude.{◌≡◌, ℕ, ◌+◌, ◌-◌, ◌<◌, ◌≤◌, Bool, true, false, List, [], ◌∷◌, ◌++◌, flat_map, length, nat_lt, slice_get, if◌then◌else◌}
use Rattle.std.specs.Option.{option_map_or}
use Rattle.std.specs.List.{list_all}
use Rattle.std.proofs.Common.{ap, sym, ◌∙◌, arith}
use Rattle.std.proofs.lemmas.Bool.{and_parts, ltb-true}
use Rattle.std.proofs.lemmas.List.Folds.{list_all-append}
use Rattle.chew_spec_syllable.specs.Phrase.{is_phrase}
use Rattle.chew_spec_phrasing.specs.Usable.{Piece, phrase_len}
use Rattle.chew_spec_preedit.specs.Cell.{Cell, has_sound}
use Rattle.chew_spec_preedit.proofs.Phrases.{phrase_len-some}
use Rattle.chew_spec_editor.specs.Editor.{Editor}
use Rattle.chew_spec_editor.specs.Invariant.{covers, is_piece, piece_places}
use Rattle.chew_spec_editor.specs.Press.{leading_cells}
use Rattle.chew_spec_editor.proofs.SoundPlaces.{places-below, range-each, same-from_covers}
use Rattle.chew_spec_editor.proofs.Steady.{IsEditor}

-- a piece has a syllable
pub piece-some : (piece : Piece) → is_piece piece ≡ true → 1 ≤ phrase_len piece.phrase
piece-some piece e = phrase_len-some piece.phrase ((and_parts (is_phrase piece.phrase) _ e).0)

-- a number of cells from 1 to all
pub record IsFront (cells : List Cell) (count : ℕ) : Type 0 where
  pub some : 1 ≤ count
  pub within : count ≤ length cells

-- the first piece lies among the cells
first-within : (cells : List Cell) (piece : Piece) (pieces : List Piece) → covers cells (piece ∷ pieces) ≡ true → is_piece piece ≡ true → IsFront cells (phrase_len piece.phrase)
first-within cells piece pieces e p =
    let len = phrase_len piece.phrase in
    let some = piece-some piece p in
    let all : list_all (λ k. nat_lt k (0 + length cells)) (piece_places piece ++ flat_map piece_places pieces) ≡ true =
    ap (list_all (λ k. nat_lt k (0 + length cells))) (same-from_covers cells (piece ∷ pieces) e) ∙ places-below 0 cells in
    let parts = and_parts (list_all (λ k. nat_lt k (0 + length cells)) (piece_places piece)) _ (sym (list_all-append (λ k. nat_lt k (0 + length cells)) (piece_places piece) (flat_map piece_places pieces)) ∙ all) in
    let last = ltb-true (piece.start + len - 1) (0 + length cells) (range-each (λ k. nat_lt k (0 + length cells)) piece.start len (piece.start + len - 1) parts.0 (omega arith) (omega arith)) in
    record { some = some; within = omega arith }

by_first : (cells : List Cell) (pieces : List Piece) → covers cells pieces ≡ true → list_all is_piece pieces ≡ true → 0 < length cells
    → IsFront cells (option_map_or (λ piece. phrase_len piece.phrase) (slice_get pieces 0) 1)
by_first cells [] e p l = record { some = omega arith; within = omega arith }
by_first cells (piece ∷ pieces) e p l = first-within cells piece pieces e ((and_parts (is_piece piece) (list_all is_piece pieces) p).0)

by_sound : (cells : List Cell) (count : ℕ) (b : Bool) → IsFront cells count → 0 < length cells → IsFront cells (if b then count else 1)
by_sound cells count true h l = h
by_sound cells count false h l = record { some = omega arith; within = omega arith }

pub leading-within : (editor : Editor) → IsEditor editor → 0 < length editor.buffer.cells → IsFront editor.buffer.cells (leading_cells editor)
leading-within editor h l =
    by_sound editor.buffer.cells (option_map_or (λ piece. phrase_len piece.phrase) (slice_get editor.pieces 0) 1) (has_sound editor.buffer.cells 0)
    (by_first editor.buffer.cells editor.pieces h.covered h.steady.pieces l) l
