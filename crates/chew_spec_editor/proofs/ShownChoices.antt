-- A choice's characters are shown at its place.
use Rattle.std.specs.Prelude.{◌≡◌, ℕ, suc, ◌+◌, ◌-◌, ◌<◌, ◌≤◌, true, List, [], ◌∷◌, ◌++◌, Contains, chars, drop, find, flat_map, take, length, slice_get, nat_le, nat_lt, option_and_then, option_to_list, Some}
use Rattle.std.specs.List.{list_all}
use Rattle.std.proofs.Common.{refl, ap, subst, ◌∙◌, arith, ⊎_elim, length-drop}
use Rattle.std.proofs.lemmas.Bool.{and_from, and_parts, cases_Bool, cond-false, cond-true, false≢true, leb-true, le-leb, lt-ltb, ltb-true}
use Rattle.std.proofs.lemmas.List.{length-take-le}
use Rattle.std.proofs.lemmas.List.Elements.{Contains-append_right}
use Rattle.chew_spec_phrasing.specs.Usable.{Piece, phrase_len}
use Rattle.chew_spec_phrasing.proofs.CombinedSegment.{Contains-range}
use Rattle.chew_spec_phrasing.proofs.Membership.{Contains-cases, Contains-flat_map, Contains-nil}
use Rattle.chew_spec_preedit.specs.Cell.{Cell, Sound, Symbol, is_sound}
use Rattle.chew_spec_preedit.specs.InTurn.{is_in_turn}
use Rattle.chew_spec_preedit.specs.ShownText.{character_at, characters_from, characters_of, has_cell}
use Rattle.chew_spec_editor.specs.Invariant.{covers, is_piece, piece_places}
use Rattle.chew_spec_editor.proofs.Characters.{cells-show, drop-characters, places-drop, shows, take-characters}
use Rattle.chew_spec_editor.proofs.ShownRows.{passes}
use Rattle.chew_spec_editor.proofs.SoundPlaces.{same-from_covers, sound_places}
use Rattle.chew_spec_editor.proofs.Texts.{AreSounds}

-- the places of syllables rise
above-places : (place : ℕ) (cells : List Cell) (low : ℕ) → low < place → list_all (nat_lt low) (sound_places place cells) ≡ true
above-places place [] low l = refl
above-places place (Sound code ∷ cells) low l = and_from (nat_lt low place) _ (lt-ltb low place l) (above-places (suc place) cells low (omega arith))
above-places place (Symbol byte ∷ cells) low l = above-places (suc place) cells low (omega arith)

rising-places : (place : ℕ) (cells : List Cell) → is_in_turn nat_lt (sound_places place cells) ≡ true
rising-places place [] = refl
rising-places place (Sound code ∷ cells) =
    and_from (list_all (nat_lt place) (sound_places (suc place) cells)) _ (above-places (suc place) cells place (omega arith)) (rising-places (suc place) cells)
rising-places place (Symbol byte ∷ cells) = rising-places (suc place) cells

-- of two rising lists, each of the first is below each of the second
across : (xs ys : List ℕ) (x y : ℕ) → is_in_turn nat_lt (xs ++ ys) ≡ true → Contains xs x → Contains ys y → x < y
across [] ys x y e i j = absurd (Contains-nil x i)
across (z ∷ xs) ys x y e i j =
    let parts = and_parts (list_all (nat_lt z) (xs ++ ys)) (is_in_turn nat_lt (xs ++ ys)) e in
    ⊎_elim
    (λ same. subst (λ (k : ℕ). k < y) same (ltb-true z y (passes (nat_lt z) (xs ++ ys) y parts.0 (Contains-append_right xs ys y j))))
    (λ later. across xs ys x y parts.1 later j)
    (Contains-cases z xs x i)

rising-rest : (xs ys : List ℕ) → is_in_turn nat_lt (xs ++ ys) ≡ true → is_in_turn nat_lt ys ≡ true
rising-rest [] ys e = e
rising-rest (x ∷ xs) ys e = rising-rest xs ys ((and_parts (list_all (nat_lt x) (xs ++ ys)) (is_in_turn nat_lt (xs ++ ys)) e).1)

place-of : (piece : Piece) (k : ℕ) → piece.start ≤ k → k < piece.start + phrase_len piece.phrase → Contains (piece_places piece) k
place-of piece k l m = Contains-range piece.start (phrase_len piece.phrase) k l m

-- the piece that has a cell is the one that shows it
owner-found : (pieces : List Piece) (piece : Piece) (k : ℕ) → is_in_turn nat_lt (flat_map piece_places pieces) ≡ true → Contains pieces piece
    → piece.start ≤ k → k < piece.start + phrase_len piece.phrase → find (has_cell k) pieces ≡ Some piece
owner-found [] piece k e i l m = absurd (Contains-nil piece i)
owner-found (first ∷ pieces) piece k e i l m =
    ⊎_elim
    (λ same.
    let has : has_cell k first ≡ true = ap (has_cell k) same
    ∙ and_from (nat_le piece.start k) (nat_lt k (piece.start + phrase_len piece.phrase)) (le-leb piece.start k l) (lt-ltb k (piece.start + phrase_len piece.phrase) m) in
    cond-true (has_cell k first) (Some first) (find (has_cell k) pieces) has ∙ ap (λ p. Some p) same)
    (λ later. ⊎_elim
    (λ has.
    let inside = and_parts (nat_le first.start k) (nat_lt k (first.start + phrase_len first.phrase)) has in
    let own = place-of first k (leb-true first.start k inside.0) (ltb-true k (first.start + phrase_len first.phrase) inside.1) in
    let other = Contains-flat_map piece_places pieces piece k later (place-of piece k l m) in
    absurd (let below = across (piece_places first) (flat_map piece_places pieces) k k e own other in omega arith))
    (λ without. cond-false (has_cell k first) (Some first) (find (has_cell k) pieces) without
    ∙ owner-found pieces piece k (rising-rest (piece_places first) (flat_map piece_places pieces) e) later l m)
    (cases_Bool (has_cell k first)))
    (Contains-cases first pieces piece i)

-- syllables whose characters these are show them
characters-are : (pieces : List Piece) (place : ℕ) (cells : List Cell) (cs : List ℕ) → list_all is_sound cells ≡ true → length cells ≡ length cs
    → ((k : ℕ) → k < length cs → character_at pieces (place + k) ≡ slice_get cs k) → characters_from pieces place cells ≡ cs
characters-are pieces place [] [] s e h = refl
characters-are pieces place [] (c ∷ cs) s e h = absurd (omega arith)
characters-are pieces place (Symbol byte ∷ cells) cs s e h = absurd (false≢true s)
characters-are pieces place (Sound code ∷ cells) [] s e h = absurd (omega arith)
characters-are pieces place (Sound code ∷ cells) (c ∷ cs) s e h =
    let here : character_at pieces place ≡ Some c = ap (character_at pieces) (let f : place ≡ place + 0 = omega arith in f) ∙ h 0 (omega arith) in
    ap (λ o. option_to_list o ++ characters_from pieces (suc place) cells) here
    ∙ ap (λ rest. c ∷ rest) (characters-are pieces (suc place) cells cs s (omega arith)
    (λ k l. ap (character_at pieces) (let f : suc place + k ≡ place + suc k = omega arith in f) ∙ h (suc k) (omega arith)))

-- what a piece shows at some of its cells
pub shown-of_piece : (cells : List Cell) (pieces : List Piece) (piece : Piece) (start : ℕ) (cs : List ℕ) → covers cells pieces ≡ true → list_all is_piece pieces ≡ true
    → Contains pieces piece → AreSounds cells start (length cs) → piece.start ≤ start → start + length cs ≤ piece.start + phrase_len piece.phrase
    → ((k : ℕ) → k < length cs → slice_get (chars piece.phrase) (start + k - piece.start) ≡ slice_get cs k)
    → take (length cs) (drop start (characters_of pieces cells)) ≡ cs
unfolding characters_of
shown-of_piece cells pieces piece start cs c e i s l m h =
    let show = cells-show cells pieces c e in
    let rising = ap (is_in_turn nat_lt) (same-from_covers cells pieces c) ∙ rising-places 0 cells in
    let within = s.within in
    ap (take (length cs)) (drop-characters pieces start 0 cells show)
    ∙ (take-characters pieces (length cs) (0 + start) (drop start cells) (places-drop (shows pieces) start 0 cells show)
    ∙ characters-are pieces (0 + start) (take (length cs) (drop start cells)) cs s.sounds
    (length-take-le (length cs) (drop start cells) (omega (arith, length-drop start cells)))
    (λ k n. ap (character_at pieces) (let f : 0 + start + k ≡ start + k = omega arith in f)
    ∙ (ap (option_and_then (λ (p : Piece). slice_get (chars p.phrase) (start + k - p.start))) (owner-found pieces piece (start + k) rising i (omega arith) (omega arith)) ∙ h k n)))
