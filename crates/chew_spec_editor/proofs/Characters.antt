-- Each cell of an editor shows one character, and a syllable one that may stand in a phrase.
use Rattle.std.specs.Prelude.{◌≡◌, ℕ, zero, suc, ◌+◌, ◌-◌, ◌<◌, ◌≤◌, Bool, true, false, List, [], ◌∷◌, ◌++◌, Contains, chars, drop, take, flat_map, length, slice_get, nat_le, nat_lt, option_to_list, option_and_then, Option, Some, None}
use Rattle.std.specs.Option.{option_map_or}
use Rattle.std.specs.List.{list_all, range_with_len}
use Rattle.std.proofs.Common.{refl, ap, sym, ◌∙◌, arith, length-drop}
use Rattle.std.proofs.lemmas.List.{length-take-le}
use Rattle.std.proofs.lemmas.Bool.{and_from, and_parts, false≢true, le-leb, leb-true, lt-ltb, ltb-true}
use Rattle.chew_spec_phrasing.specs.Usable.{Piece, phrase_len}
use Rattle.chew_spec_phrasing.proofs.CanSegment.{find_from_Contains}
use Rattle.chew_spec_phrasing.proofs.Membership.{Contains-from_flat_map}
use Rattle.chew_spec_phrasing.proofs.Usable.{Passes-from_find}
use Rattle.chew_spec_syllable.specs.Phrase.{is_phrase}
use Rattle.chew_spec_preedit.specs.Cell.{Cell, Sound, Symbol, is_sound}
use Rattle.chew_spec_preedit.specs.ShownText.{character_at, characters_from, characters_of, has_cell}
use Rattle.chew_spec_editor.specs.Invariant.{covers, is_piece, piece_places}
use Rattle.chew_spec_editor.proofs.Opened.{test-all}
use Rattle.chew_spec_editor.proofs.ShownRows.{passes}
use Rattle.chew_spec_editor.proofs.SoundPlaces.{range-all, same-from_covers, sound_places}
use Rattle.chew_spec_editor.proofs.Texts.{AreSounds, IsText-phrase, is_character}

-- a character is shown at the place
abbrev pub shows : List Piece → ℕ → Bool
shows pieces place = option_map_or is_character (character_at pieces place) false

-- the character at a place of a text
character-in : (cs : List ℕ) (k : ℕ) → list_all is_character cs ≡ true → k < length cs → option_map_or is_character (slice_get cs k) false ≡ true
character-in [] k e l = absurd (omega arith)
character-in (c ∷ cs) zero e l = (and_parts (is_character c) (list_all is_character cs) e).0
character-in (c ∷ cs) (suc k) e l = character-in cs k ((and_parts (is_character c) (list_all is_character cs) e).1) (omega arith)

-- the bounds of a range
range-bounds : (a n k : ℕ) → Contains (range_with_len a n) k → (a ≤ k) × (k < a + n)
range-bounds a n k i =
    let low = passes (λ p. nat_le a p) (range_with_len a n) k (range-all (λ p. nat_le a p) a n (λ p l _. le-leb a p l)) i in
    let high = passes (λ p. nat_lt p (a + n)) (range_with_len a n) k (range-all (λ p. nat_lt p (a + n)) a n (λ p _ m. lt-ltb p (a + n) m)) i in
    (leb-true a k low, ltb-true k (a + n) high)

-- at each place of the pieces one is shown
pub pieces-show : (pieces : List Piece) → list_all is_piece pieces ≡ true → list_all (shows pieces) (flat_map piece_places pieces) ≡ true
pieces-show pieces e = test-all (shows pieces) (flat_map piece_places pieces) (λ place i.
    let owner = Contains-from_flat_map piece_places pieces place i in
    let bounds = range-bounds owner.0.start (phrase_len owner.0.phrase) place owner.2 in
    let has = and_from (nat_le owner.0.start place) (nat_lt place (owner.0.start + phrase_len owner.0.phrase))
    (le-leb owner.0.start place bounds.0) (lt-ltb place (owner.0.start + phrase_len owner.0.phrase) bounds.1) in
    let found = find_from_Contains (has_cell place) pieces owner.0 owner.1 has in
    let first = Passes-from_find (has_cell place) pieces found.0 found.1 in
    let is = passes is_piece pieces found.0 e first.among in
    let text = IsText-phrase found.0.phrase ((and_parts (is_phrase found.0.phrase) _ is).0) in
    let inside = and_parts (nat_le found.0.start place) (nat_lt place (found.0.start + phrase_len found.0.phrase)) first.passes in
    let low = leb-true found.0.start place inside.0 in
    let high = ltb-true place (found.0.start + phrase_len found.0.phrase) inside.1 in
    ap (λ o. option_map_or is_character (option_and_then (λ (piece : Piece). slice_get (chars piece.phrase) (place - piece.start)) o) false) found.1
    ∙ character-in (chars found.0.phrase) (place - found.0.start) text.characters (omega arith))

-- so at each syllable
pub cells-show : (cells : List Cell) (pieces : List Piece) → covers cells pieces ≡ true → list_all is_piece pieces ≡ true → list_all (shows pieces) (sound_places 0 cells) ≡ true
cells-show cells pieces c e = ap (list_all (shows pieces)) (sym (same-from_covers cells pieces c)) ∙ pieces-show pieces e

-- one character is shown
record IsOneCharacter (shown : Option ℕ) : Type 0 where
  pub character : ℕ
  pub is : shown ≡ Some character
  pub allowed : is_character character ≡ true

IsOneCharacter-from : (shown : Option ℕ) → option_map_or is_character shown false ≡ true → IsOneCharacter shown
IsOneCharacter-from None e = absurd (false≢true e)
IsOneCharacter-from (Some c) e = record { character = c; is = refl; allowed = e }

-- the first character of cells, and the others
one-more : (pieces : List Piece) (place code : ℕ) (cells : List Cell) (one : IsOneCharacter (character_at pieces place))
    → characters_from pieces place (Sound code ∷ cells) ≡ one.character ∷ characters_from pieces (suc place) cells
one-more pieces place code cells one = ap (λ o. option_to_list o ++ characters_from pieces (suc place) cells) one.is

first-shown : (pieces : List Piece) (place : ℕ) (places : List ℕ) → list_all (shows pieces) (place ∷ places) ≡ true → IsOneCharacter (character_at pieces place)
first-shown pieces place places e = IsOneCharacter-from (character_at pieces place) ((and_parts (shows pieces place) (list_all (shows pieces) places) e).0)

-- as many characters as cells
pub length-characters : (pieces : List Piece) (place : ℕ) (cells : List Cell) → list_all (shows pieces) (sound_places place cells) ≡ true → length (characters_from pieces place cells) ≡ length cells
length-characters pieces place [] e = refl
length-characters pieces place (Symbol byte ∷ cells) e = ap suc (length-characters pieces (suc place) cells e)
length-characters pieces place (Sound code ∷ cells) e =
    ap length (one-more pieces place code cells (first-shown pieces place (sound_places (suc place) cells) e))
    ∙ ap suc (length-characters pieces (suc place) cells ((and_parts (shows pieces place) (list_all (shows pieces) (sound_places (suc place) cells)) e).1))

-- the first characters are those of the first cells, and those behind of those behind
pub take-characters : (pieces : List Piece) (n place : ℕ) (cells : List Cell) → list_all (shows pieces) (sound_places place cells) ≡ true
    → take n (characters_from pieces place cells) ≡ characters_from pieces place (take n cells)
take-characters pieces zero place cells e = refl
take-characters pieces (suc n) place [] e = refl
take-characters pieces (suc n) place (Symbol byte ∷ cells) e = ap (λ cs. byte ∷ cs) (take-characters pieces n (suc place) cells e)
take-characters pieces (suc n) place (Sound code ∷ cells) e =
    let one = first-shown pieces place (sound_places (suc place) cells) e in
    let rest = (and_parts (shows pieces place) (list_all (shows pieces) (sound_places (suc place) cells)) e).1 in
    ap (take (suc n)) (one-more pieces place code cells one)
    ∙ (ap (λ cs. one.character ∷ cs) (take-characters pieces n (suc place) cells rest) ∙ sym (one-more pieces place code (take n cells) one))

pub drop-characters : (pieces : List Piece) (n place : ℕ) (cells : List Cell) → list_all (shows pieces) (sound_places place cells) ≡ true
    → drop n (characters_from pieces place cells) ≡ characters_from pieces (place + n) (drop n cells)
drop-characters pieces zero place cells e = ap (λ p. characters_from pieces p cells) (let f : place ≡ place + 0 = omega arith in f)
drop-characters pieces (suc n) place [] e = refl
drop-characters pieces (suc n) place (Symbol byte ∷ cells) e =
    drop-characters pieces n (suc place) cells e ∙ ap (λ p. characters_from pieces p (drop n cells)) (let f : suc place + n ≡ place + suc n = omega arith in f)
drop-characters pieces (suc n) place (Sound code ∷ cells) e =
    let one = first-shown pieces place (sound_places (suc place) cells) e in
    let rest = (and_parts (shows pieces place) (list_all (shows pieces) (sound_places (suc place) cells)) e).1 in
    ap (drop (suc n)) (one-more pieces place code cells one)
    ∙ (drop-characters pieces n (suc place) cells rest ∙ ap (λ p. characters_from pieces p (drop n cells)) (let f : suc place + n ≡ place + suc n = omega arith in f))

-- the places of the syllables behind a place, and of the first ones
pub places-drop : (q : ℕ → Bool) (n place : ℕ) (cells : List Cell) → list_all q (sound_places place cells) ≡ true → list_all q (sound_places (place + n) (drop n cells)) ≡ true
places-drop q zero place cells e = ap (λ p. list_all q (sound_places p cells)) (let f : place + 0 ≡ place = omega arith in f) ∙ e
places-drop q (suc n) place [] e = refl
places-drop q (suc n) place (Symbol byte ∷ cells) e =
    ap (λ p. list_all q (sound_places p (drop n cells))) (let f : place + suc n ≡ suc place + n = omega arith in f) ∙ places-drop q n (suc place) cells e
places-drop q (suc n) place (Sound code ∷ cells) e =
    ap (λ p. list_all q (sound_places p (drop n cells))) (let f : place + suc n ≡ suc place + n = omega arith in f)
    ∙ places-drop q n (suc place) cells ((and_parts (q place) (list_all q (sound_places (suc place) cells)) e).1)

places-take : (q : ℕ → Bool) (n place : ℕ) (cells : List Cell) → list_all q (sound_places place cells) ≡ true → list_all q (sound_places place (take n cells)) ≡ true
places-take q zero place cells e = refl
places-take q (suc n) place [] e = refl
places-take q (suc n) place (Symbol byte ∷ cells) e = places-take q n (suc place) cells e
places-take q (suc n) place (Sound code ∷ cells) e =
    let parts = and_parts (q place) (list_all q (sound_places (suc place) cells)) e in
    and_from (q place) _ parts.0 (places-take q n (suc place) cells parts.1)

-- syllables show characters that may stand in a phrase
sounds-allowed : (pieces : List Piece) (place : ℕ) (cells : List Cell) → list_all (shows pieces) (sound_places place cells) ≡ true → list_all is_sound cells ≡ true
    → list_all is_character (characters_from pieces place cells) ≡ true
sounds-allowed pieces place [] e s = refl
sounds-allowed pieces place (Symbol byte ∷ cells) e s = absurd (false≢true s)
sounds-allowed pieces place (Sound code ∷ cells) e s =
    let one = first-shown pieces place (sound_places (suc place) cells) e in
    let rest = (and_parts (shows pieces place) (list_all (shows pieces) (sound_places (suc place) cells)) e).1 in
    ap (list_all is_character) (one-more pieces place code cells one)
    ∙ and_from (is_character one.character) (list_all is_character (characters_from pieces (suc place) cells)) one.allowed (sounds-allowed pieces (suc place) cells rest s)

-- so many syllables from a place on show as many such characters
pub record HaveCharacters (cs : List ℕ) (len : ℕ) : Type 0 where
  pub count : length cs ≡ len
  pub characters : list_all is_character cs ≡ true

pub HaveCharacters-at : (cells : List Cell) (pieces : List Piece) (place len : ℕ) → list_all (shows pieces) (sound_places 0 cells) ≡ true → AreSounds cells place len
    → HaveCharacters (take len (drop place (characters_of pieces cells))) len
unfolding characters_of
HaveCharacters-at cells pieces place len e h =
    let within = h.within in
    let behind = places-drop (shows pieces) place 0 cells e in
    let own = places-take (shows pieces) len (0 + place) (drop place cells) behind in
    let same = ap (take len) (drop-characters pieces place 0 cells e) ∙ take-characters pieces len (0 + place) (drop place cells) behind in
    record {
      count = ap length same ∙ (length-characters pieces (0 + place) (take len (drop place cells)) own ∙ length-take-le len (drop place cells) (omega (arith, length-drop place cells)));
      characters = ap (list_all is_character) same ∙ sounds-allowed pieces (0 + place) (take len (drop place cells)) own h.sounds;
    }
