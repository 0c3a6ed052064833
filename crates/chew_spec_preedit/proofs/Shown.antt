-- What pieces show of cells.
use Rattle.std.proofs.Common.{◌≡◌, ◌⊎◌, inl, inr, ℕ, zero, suc, ◌+◌, ◌-◌, ◌<◌, ◌≤◌, Bool, true, false, ◌&&◌, List, [], ◌∷◌, ◌++◌, length, find, Contains, Option, Some, None, refl, ap, sym, subst, ◌∙◌, arith}
use Rattle.std.specs.Prelude.{nat_le, nat_lt, chars}
use Rattle.std.specs.List.{list_all, slice_get}
use Rattle.std.specs.Option.{IsSome, option_and_then, option_to_list}
use Rattle.std.proofs.lemmas.Bool.{and_from, and_left, and_parts, and_right, false≢true, cond-false, cond-true, le-leb, le-ltb, leb-true, lt-leb, lt-ltb, ltb-true}
use Rattle.chew_spec_phrasing.specs.Usable.{Piece, phrase_len}
use Rattle.chew_spec_phrasing.proofs.Membership.{Contains-cases, Contains-nil}
use Rattle.chew_spec_preedit.specs.InTurn.{is_in_turn}
use Rattle.chew_spec_preedit.specs.Cell.{Cell, Sound, Symbol, has_sound}
use Rattle.chew_spec_preedit.specs.ShownText.{character_at, characters_from, characters_of, has_cell}
use Rattle.chew_spec_preedit.proofs.Kept.{list_all-at}

-- each syllable's cell has a character of a piece
abbrev pub ShowEach : List Piece → ℕ → List Cell → Type 0
ShowEach pieces place cells = (k : ℕ) → has_sound cells k ≡ true → IsSome (character_at pieces (place + k))

one_more : (found : Option ℕ) (rest : List ℕ) → IsSome found → length (option_to_list found ++ rest) ≡ suc (length rest)
one_more None rest s = absurd (false≢true s)
one_more (Some character) rest s = refl

later_each : (pieces : List Piece) (place : ℕ) (cell : Cell) (cells : List Cell) → ShowEach pieces place (cell ∷ cells) → ShowEach pieces (suc place) cells
later_each pieces place cell cells h k e = subst (λ (n : ℕ). IsSome (character_at pieces n)) (let f : place + suc k ≡ suc place + k = omega arith in f) (h (suc k) e)

length-from : (pieces : List Piece) (place : ℕ) (cells : List Cell) → ShowEach pieces place cells → length (characters_from pieces place cells) ≡ length cells
length-from pieces place [] h = refl
length-from pieces place (Symbol byte ∷ cells) h = ap suc (length-from pieces (suc place) cells (later_each pieces place (Symbol byte) cells h))
length-from pieces place (Sound code ∷ cells) h =
    one_more (character_at pieces place) (characters_from pieces (suc place) cells) (subst (λ (n : ℕ). IsSome (character_at pieces n)) (let f : place + 0 ≡ place = omega arith in f) (h 0 refl))
    ∙ ap suc (length-from pieces (suc place) cells (later_each pieces place (Sound code) cells h))

get_of : (found : Option ℕ) (rest : List ℕ) (k : ℕ) → IsSome found → slice_get (option_to_list found ++ rest) (suc k) ≡ slice_get rest k
get_of None rest k s = absurd (false≢true s)
get_of (Some character) rest k s = refl

get_first : (found : Option ℕ) (rest : List ℕ) → IsSome found → slice_get (option_to_list found ++ rest) 0 ≡ found
get_first None rest s = absurd (false≢true s)
get_first (Some character) rest s = refl

here : (pieces : List Piece) (place : ℕ) (code : ℕ) (cells : List Cell) → ShowEach pieces place (Sound code ∷ cells) → IsSome (character_at pieces place)
here pieces place code cells h = subst (λ (n : ℕ). IsSome (character_at pieces n)) (let f : place + 0 ≡ place = omega arith in f) (h 0 refl)

sound_from : (pieces : List Piece) (place : ℕ) (cells : List Cell) (k : ℕ) → ShowEach pieces place cells → has_sound cells k ≡ true → slice_get (characters_from pieces place cells) k ≡ character_at pieces (place + k)
sound_from pieces place [] k h e = absurd (cc)
sound_from pieces place (Symbol byte ∷ cells) zero h e = absurd (cc)
sound_from pieces place (Symbol byte ∷ cells) (suc k) h e =
    sound_from pieces (suc place) cells k (later_each pieces place (Symbol byte) cells h) e ∙ ap (character_at pieces) (let f : suc place + k ≡ place + suc k = omega arith in f)
sound_from pieces place (Sound code ∷ cells) zero h e =
    get_first (character_at pieces place) (characters_from pieces (suc place) cells) (here pieces place code cells h) ∙ ap (character_at pieces) (let f : place ≡ place + 0 = omega arith in f)
sound_from pieces place (Sound code ∷ cells) (suc k) h e =
    get_of (character_at pieces place) (characters_from pieces (suc place) cells) k (here pieces place code cells h)
    ∙ (sound_from pieces (suc place) cells k (later_each pieces place (Sound code) cells h) e ∙ ap (character_at pieces) (let f : suc place + k ≡ place + suc k = omega arith in f))

symbol_from : (pieces : List Piece) (place : ℕ) (cells : List Cell) (k byte : ℕ) → ShowEach pieces place cells → slice_get cells k ≡ Some (Symbol byte) → slice_get (characters_from pieces place cells) k ≡ Some byte
symbol_from pieces place [] k byte h e = absurd (cc)
symbol_from pieces place (Symbol own ∷ cells) zero byte h e = cc
symbol_from pieces place (Sound code ∷ cells) zero byte h e = absurd (cc)
symbol_from pieces place (Symbol own ∷ cells) (suc k) byte h e = symbol_from pieces (suc place) cells k byte (later_each pieces place (Symbol own) cells h) e
symbol_from pieces place (Sound code ∷ cells) (suc k) byte h e =
    get_of (character_at pieces place) (characters_from pieces (suc place) cells) k (here pieces place code cells h) ∙ symbol_from pieces (suc place) cells k byte (later_each pieces place (Sound code) cells h) e

from_start : (pieces : List Piece) (cells : List Cell) → ((k : ℕ) → has_sound cells k ≡ true → IsSome (character_at pieces k)) → ShowEach pieces 0 cells
from_start pieces cells h k e = subst (λ (n : ℕ). IsSome (character_at pieces n)) (let f : k ≡ 0 + k = omega arith in f) (h k e)

pub characters-count : (pieces : List Piece) (cells : List Cell) → ((k : ℕ) → has_sound cells k ≡ true → IsSome (character_at pieces k)) → length (characters_of pieces cells) ≡ length cells
unfolding characters_of
characters-count pieces cells h = length-from pieces 0 cells (from_start pieces cells h)

pub characters-sound : (pieces : List Piece) (cells : List Cell) (place : ℕ) → ((k : ℕ) → has_sound cells k ≡ true → IsSome (character_at pieces k)) → has_sound cells place ≡ true
    → slice_get (characters_of pieces cells) place ≡ character_at pieces place
unfolding characters_of
characters-sound pieces cells place h e = sound_from pieces 0 cells place (from_start pieces cells h) e ∙ ap (character_at pieces) (let f : 0 + place ≡ place = omega arith in f)

pub characters-symbol : (pieces : List Piece) (cells : List Cell) (place byte : ℕ) → ((k : ℕ) → has_sound cells k ≡ true → IsSome (character_at pieces k)) → slice_get cells place ≡ Some (Symbol byte)
    → slice_get (characters_of pieces cells) place ≡ Some byte
unfolding characters_of
characters-symbol pieces cells place byte h e = symbol_from pieces 0 cells place byte (from_start pieces cells h) e

abbrev pub piece_before : Piece → Piece → Bool
piece_before piece later = nat_le (piece.start + phrase_len piece.phrase) later.start

-- of pieces apart, the one that has a cell is found
found_own : (pieces : List Piece) (piece : Piece) (place : ℕ) → is_in_turn piece_before pieces ≡ true → Contains pieces piece → has_cell place piece ≡ true → find (has_cell place) pieces ≡ Some piece
found_own [] piece place t i e = absurd (Contains-nil piece i)
found_own (first ∷ pieces) piece place t i e =
    let turn = and_parts (list_all (piece_before first) pieces) (is_in_turn piece_before pieces) t in
    elim (Contains-cases first pieces piece i) [
      | inl f ↦ cond-true (has_cell place first) (Some first) (find (has_cell place) pieces) (ap (has_cell place) f ∙ e) ∙ ap Some f
      | inr j ↦
          let after = leb-true (first.start + phrase_len first.phrase) piece.start (list_all-at (piece_before first) pieces piece turn.0 j) in
          let own = and_parts (nat_le piece.start place) (nat_lt place (piece.start + phrase_len piece.phrase)) e in
          let low = leb-true piece.start place own.0 in
          cond-false (has_cell place first) (Some first) (find (has_cell place) pieces) (and_right (nat_le first.start place) (nat_lt place (first.start + phrase_len first.phrase)) (le-ltb place (first.start + phrase_len first.phrase) (omega arith)))
          ∙ found_own pieces piece place turn.1 j e
    ]

pub piece-own : (pieces : List Piece) (piece : Piece) (k : ℕ) → is_in_turn piece_before pieces ≡ true → Contains pieces piece → k < phrase_len piece.phrase
    → character_at pieces (piece.start + k) ≡ slice_get (chars piece.phrase) k
piece-own pieces piece k t i l =
    let place = piece.start + k in
    let has : has_cell place piece ≡ true = and_from (nat_le piece.start place) (nat_lt place (piece.start + phrase_len piece.phrase)) (le-leb piece.start place (omega arith)) (lt-ltb place (piece.start + phrase_len piece.phrase) (omega arith)) in
    ap (option_and_then (λ (p : Piece). slice_get (chars p.phrase) (place - p.start))) (found_own pieces piece place t i has)
    ∙ ap (slice_get (chars piece.phrase)) (let f : place - piece.start ≡ k = omega arith in f)
