-- The stretches of single syllables are the longest ones, and are learnt in parts of 11.
use Rattle.std.specs.Prelude.{◌≡◌, ℕ, zero, suc, ◌+◌, ◌-◌, ◌*◌, ◌/◌, ◌<◌, ◌≤◌, min, Bool, true, false, not, ◌&&◌, List, [], ◌∷◌, ◌++◌, All, Contains, chars, drop, take, encode_utf8_all, flat_map, map, length, slice_get, ◌==◌, Some}
use Rattle.std.specs.List.{list_all, range_with_len}
use Rattle.std.proofs.Common.{refl, ap, ap₂, sym, subst, ◌∙◌, arith, eqb-true, length-append, length-drop, length-take, ⊎_elim}
use Rattle.std.proofs.lemmas.Bool.{and_from, and_parts, cases_lt, cond_both, not-true}
use Rattle.std.proofs.lemmas.List.{length-map}
use Rattle.std.proofs.lemmas.List.Elements.{All-cons, All-contains, All-head, All-nil, All-tail}
use Rattle.std.proofs.lemmas.Option.{none-some, same_Some}
use Rattle.chew_spec_syllable.specs.Phrase.{is_phrase}
use Rattle.chew_spec_syllable.specs.Row.{Row}
use Rattle.chew_spec_dictionary.specs.Call.{Call}
use Rattle.chew_spec_phrasing.specs.Usable.{Piece, phrase_len}
use Rattle.chew_spec_phrasing.proofs.Membership.{Contains-head, Contains-tail}
use Rattle.chew_spec_preedit.specs.Cell.{Cell, has_sound}
use Rattle.chew_spec_preedit.specs.Edit.{has_break}
use Rattle.chew_spec_preedit.proofs.Parts.{list_all-drop, list_all-take}
use Rattle.chew_spec_editor.specs.Commits.{phrase_learnt}
use Rattle.chew_spec_editor.specs.Invariant.{covers, is_piece, piece_places}
use Rattle.chew_spec_editor.specs.Learning.{Stretch, go_together, learns_of, part_of, phrase_limit, stretch_of, stretches, with_stretch}
use Rattle.chew_spec_editor.proofs.Committing.{learns_of-joined, stretches-text}
use Rattle.chew_spec_editor.proofs.SoundPlaces.{places-sound, range-each, same-from_covers}
use Rattle.chew_spec_editor.proofs.Stretches.{IsOver, stretches-over}
use Rattle.chew_spec_editor.proofs.Texts.{IsText, IsText-append, IsText-phrase, is_character, phrase_len-encoded}

-- no stretch goes together with the one behind it
abbrev parted_from : List ℕ → Stretch → List Stretch → Bool
parted_from breaks first [] = true
parted_from breaks first (second ∷ rest) = not (go_together breaks first second) && parted_from breaks second rest

abbrev are_parted : List ℕ → List Stretch → Bool
are_parted breaks [] = true
are_parted breaks (first ∷ rest) = parted_from breaks first rest

-- what ends a stretch decides what goes together with it
same-together : (breaks : List ℕ) (one other next : Stretch) → one.is_single ≡ other.is_single
    → one.start + phrase_len one.phrase ≡ other.start + phrase_len other.phrase → go_together breaks one next ≡ go_together breaks other next
same-together breaks one other next e f =
    ap₂ (λ (single : Bool) (end : ℕ). single && (next.is_single && (next.start == end && not (has_break breaks next.start)))) e f

same-parted : (breaks : List ℕ) (one other : Stretch) (rest : List Stretch) → one.is_single ≡ other.is_single
    → one.start + phrase_len one.phrase ≡ other.start + phrase_len other.phrase → parted_from breaks other rest ≡ true → parted_from breaks one rest ≡ true
same-parted breaks one other [] e f h = refl
same-parted breaks one other (next ∷ rest) e f h =
    ap (λ b. not b && parted_from breaks next rest) (same-together breaks one other next e f) ∙ h

with_stretch-parted : (breaks : List ℕ) (first : Stretch) (rest : List Stretch) → IsText first.phrase → All (λ s. IsText s.phrase) rest → are_parted breaks rest ≡ true
    → are_parted breaks (with_stretch breaks first rest) ≡ true
with_stretch-parted breaks first [] t ts h = refl
with_stretch-parted breaks first (second ∷ rest) t ts h =
    let both : Stretch = record { start = first.start; phrase = first.phrase ++ second.phrase; is_single = true } in
    cond_both (go_together breaks first second)
    (record { start = first.start; phrase = first.phrase ++ second.phrase; is_single = true } ∷ rest) (first ∷ (second ∷ rest))
    (λ ss. are_parted breaks ss ≡ true)
    (λ e.
    let one = and_parts first.is_single _ e in
    let two = and_parts second.is_single _ one.1 in
    let meets = and_parts (second.start == first.start + phrase_len first.phrase) _ two.1 in
    let from = eqb-true second.start (first.start + phrase_len first.phrase) meets.0 in
    let text = IsText-append first.phrase second.phrase t (All-head (λ s. IsText s.phrase) second rest ts) in
    let count = ap length text.0 ∙ length-append (chars first.phrase) (chars second.phrase) in
    same-parted breaks both second rest (sym two.0) (omega arith) h)
    (λ f. and_from (not (go_together breaks first second)) (parted_from breaks second rest) (ap not f) h)

stretches-parted : (breaks : List ℕ) (pieces : List Piece) → list_all is_piece pieces ≡ true → are_parted breaks (stretches breaks pieces) ≡ true
stretches-parted breaks [] e = refl
stretches-parted breaks (piece ∷ pieces) e =
    let parts = and_parts (is_piece piece) (list_all is_piece pieces) e in
    with_stretch-parted breaks (stretch_of piece) (stretches breaks pieces) (IsText-phrase piece.phrase ((and_parts (is_phrase piece.phrase) _ parts.0).0))
    (stretches-text breaks pieces parts.1).0 (stretches-parted breaks pieces parts.1)

parted-at : (breaks : List ℕ) (all : List Stretch) (k : ℕ) (first second : Stretch) → are_parted breaks all ≡ true → slice_get all k ≡ Some first → slice_get all (suc k) ≡ Some second
    → go_together breaks first second ≡ false
parted-at breaks [] k first second h e f = absurd (none-some first e)
parted-at breaks (one ∷ []) k first second h e f = absurd (none-some second f)
parted-at breaks (one ∷ (two ∷ rest)) zero first second h e f =
    let parts = and_parts (not (go_together breaks one two)) (parted_from breaks two rest) h in
    sym (ap₂ (λ (a b : Stretch). go_together breaks a b) (same_Some one first e) (same_Some two second f)) ∙ not-true (go_together breaks one two) parts.0
parted-at breaks (one ∷ (two ∷ rest)) (suc k) first second h e f =
    let parts = and_parts (not (go_together breaks one two)) (parted_from breaks two rest) h in
    parted-at breaks (two ∷ rest) k first second parts.1 e f

pub neighbours-apart : (breaks : List ℕ) (pieces : List Piece) (k : ℕ) (first second : Stretch) → list_all is_piece pieces ≡ true
    → slice_get (stretches breaks pieces) k ≡ Some first → slice_get (stretches breaks pieces) (suc k) ≡ Some second → go_together breaks first second ≡ false
neighbours-apart breaks pieces k first second e f g = parted-at breaks (stretches breaks pieces) k first second (stretches-parted breaks pieces e) f g

-- a piece of one syllable at a place
abbrev IsSingleAt : List Piece → ℕ → Type 0
IsSingleAt pieces place = (piece : Piece) × Contains pieces piece × (piece.start ≡ place) × (phrase_len piece.phrase ≡ 1)

-- a stretch of single syllables has such a piece at each of its places
record IsOfSingles (pieces : List Piece) (stretch : Stretch) : Type 0 where
  text : IsText stretch.phrase
  each : stretch.is_single ≡ true → (place : ℕ) → stretch.start ≤ place → place < stretch.start + phrase_len stretch.phrase → IsSingleAt pieces place

singles-behind : (piece : Piece) (pieces : List Piece) (stretch : Stretch) → IsOfSingles pieces stretch → IsOfSingles (piece ∷ pieces) stretch
singles-behind piece pieces stretch h = record {
  text = h.text;
  each = λ e place l m. let one = h.each e place l m in (one.0, Contains-tail piece pieces one.0 one.1, one.2, one.3);
}

all-behind : (piece : Piece) (pieces : List Piece) (all : List Stretch) → All (IsOfSingles pieces) all → All (IsOfSingles (piece ∷ pieces)) all
all-behind piece pieces [] h = All-nil (IsOfSingles (piece ∷ pieces))
all-behind piece pieces (stretch ∷ all) h =
    All-cons (IsOfSingles (piece ∷ pieces)) stretch all (singles-behind piece pieces stretch (All-head (IsOfSingles pieces) stretch all h))
    (all-behind piece pieces all (All-tail (IsOfSingles pieces) stretch all h))

singles-with_stretch : (pieces : List Piece) (breaks : List ℕ) (first : Stretch) (rest : List Stretch) → IsOfSingles pieces first → All (IsOfSingles pieces) rest
    → All (IsOfSingles pieces) (with_stretch breaks first rest)
singles-with_stretch pieces breaks first [] h g = All-cons (IsOfSingles pieces) first [] h g
singles-with_stretch pieces breaks first (second ∷ rest) h g =
    let next = All-head (IsOfSingles pieces) second rest g in
    cond_both (go_together breaks first second)
    (record { start = first.start; phrase = first.phrase ++ second.phrase; is_single = true } ∷ rest) (first ∷ (second ∷ rest))
    (All (IsOfSingles pieces))
    (λ e.
    let one = and_parts first.is_single _ e in
    let two = and_parts second.is_single _ one.1 in
    let meets = and_parts (second.start == first.start + phrase_len first.phrase) _ two.1 in
    let from = eqb-true second.start (first.start + phrase_len first.phrase) meets.0 in
    let text = IsText-append first.phrase second.phrase h.text next.text in
    let count = ap length text.0 ∙ length-append (chars first.phrase) (chars second.phrase) in
    All-cons (IsOfSingles pieces) (record { start = first.start; phrase = first.phrase ++ second.phrase; is_single = true }) rest
    (record {
      text = text.1;
      each = λ _ place l m.
          ⊎_elim (λ early. h.each one.0 place l early) (λ late. next.each two.0 place (omega arith) (omega arith)) (cases_lt place (first.start + phrase_len first.phrase));
    })
    (All-tail (IsOfSingles pieces) second rest g))
    (λ _. All-cons (IsOfSingles pieces) first (second ∷ rest) h g)

singles-stretches : (breaks : List ℕ) (pieces : List Piece) → list_all is_piece pieces ≡ true → All (IsOfSingles pieces) (stretches breaks pieces)
singles-stretches breaks [] e = All-nil (IsOfSingles [])
singles-stretches breaks (piece ∷ pieces) e =
    let parts = and_parts (is_piece piece) (list_all is_piece pieces) e in
    singles-with_stretch (piece ∷ pieces) breaks (stretch_of piece) (stretches breaks pieces)
    (record {
      text = IsText-phrase piece.phrase ((and_parts (is_phrase piece.phrase) _ parts.0).0);
      each = λ s place l m.
          let len = eqb-true (phrase_len piece.phrase) 1 s in
          let same : piece.start ≡ place = omega arith in
          (piece, Contains-head piece pieces, same, len);
    })
    (all-behind piece pieces (stretches breaks pieces) (singles-stretches breaks pieces parts.1))

pub single-at : (breaks : List ℕ) (pieces : List Piece) (stretch : Stretch) (place : ℕ) → list_all is_piece pieces ≡ true → Contains (stretches breaks pieces) stretch
    → stretch.is_single ≡ true → stretch.start ≤ place → place < stretch.start + phrase_len stretch.phrase
    → (piece : Piece) × Contains pieces piece × (piece.start ≡ place) × (phrase_len piece.phrase ≡ 1)
single-at breaks pieces stretch place e i s l m =
    (All-contains (IsOfSingles pieces) (stretches breaks pieces) stretch (singles-stretches breaks pieces e) i).each s place l m

pub sound-at : (cells : List Cell) (breaks : List ℕ) (pieces : List Piece) (stretch : Stretch) (place : ℕ) → covers cells pieces ≡ true → list_all is_piece pieces ≡ true
    → Contains (stretches breaks pieces) stretch → stretch.start ≤ place → place < stretch.start + phrase_len stretch.phrase → has_sound cells place ≡ true
sound-at cells breaks pieces stretch place covered e i l m =
    let sounds = ap (list_all (has_sound cells)) (same-from_covers cells pieces covered)
    ∙ places-sound cells 0 cells (λ k. ap (has_sound cells) (let f : k ≡ 0 + k = omega arith in f)) in
    let over = All-contains (IsOver cells) (stretches breaks pieces) stretch (stretches-over cells breaks pieces e sounds) i in
    range-each (has_sound cells) stretch.start (phrase_len stretch.phrase) place over.sounds l m

-- the text of a stretch
text-of : (breaks : List ℕ) (pieces : List Piece) (stretch : Stretch) → list_all is_piece pieces ≡ true → Contains (stretches breaks pieces) stretch → IsText stretch.phrase
text-of breaks pieces stretch e i = All-contains (λ s. IsText s.phrase) (stretches breaks pieces) stretch (stretches-text breaks pieces e).0 i

pub parts-of_stretch : (system : List Row) (cells : List Cell) (breaks : List ℕ) (pieces : List Piece) (stretch : Stretch) → list_all is_piece pieces ≡ true
    → Contains (stretches breaks pieces) stretch → flat_map phrase_learnt (learns_of system cells stretch) ≡ stretch.phrase
parts-of_stretch system cells breaks pieces stretch e i = learns_of-joined system cells stretch (text-of breaks pieces stretch e i)

-- an element of a list of so many
record IsAt {Y : Type 0} (f : ℕ → Y) (from count k : ℕ) (y : Y) : Type 0 where
  within : k < count
  is : f (from + k) ≡ y

at-range : {Y : Type 0} (f : ℕ → Y) (from count k : ℕ) (y : Y) → slice_get (map f (range_with_len from count)) k ≡ Some y → IsAt f from count k y
at-range f from zero k y e = absurd (none-some y e)
at-range f from (suc count) zero y e = record { within = omega arith; is = ap f (let g : from + 0 ≡ from = omega arith in g) ∙ same_Some (f from) y e }
at-range f from (suc count) (suc k) y e =
    let rest = at-range f (from + 1) count k y e in
    let l = rest.within in
    record { within = omega arith; is = ap f (let g : from + suc k ≡ from + 1 + k = omega arith in g) ∙ rest.is }

-- how long the parts are
record HasParts (system : List Row) (cells : List Cell) (stretch : Stretch) (k : ℕ) (call : Call) : Type 0 where
  count : length (learns_of system cells stretch) ≡ (phrase_len stretch.phrase + 10) / 11
  within : k < (phrase_len stretch.phrase + 10) / 11
  long : phrase_len (phrase_learnt call) ≡ min 11 (phrase_len stretch.phrase - 11 * k)

length-range : (from count : ℕ) → length (range_with_len from count) ≡ count
length-range from zero = refl
length-range from (suc count) = ap suc (length-range (from + 1) count)

HasParts-at : (system : List Row) (cells : List Cell) (stretch : Stretch) (k : ℕ) (call : Call) → IsText stretch.phrase → slice_get (learns_of system cells stretch) k ≡ Some call
    → HasParts system cells stretch k call
unfolding learns_of
HasParts-at system cells stretch k call h e =
    let text = chars stretch.phrase in
    let cs = take phrase_limit (drop (phrase_limit * k) text) in
    let at = at-range (part_of system cells stretch) 0 ((phrase_len stretch.phrase + 10) / phrase_limit) k call e in
    let own : part_of system cells stretch k ≡ call = ap (part_of system cells stretch) (let g : k ≡ 0 + k = omega arith in g) ∙ at.is in
    let allowed = list_all-take is_character phrase_limit (drop (phrase_limit * k) text) (list_all-drop is_character (phrase_limit * k) text h.characters) in
    record {
      count = length-map (range_with_len 0 ((phrase_len stretch.phrase + 10) / phrase_limit)) (part_of system cells stretch) ∙ length-range 0 ((phrase_len stretch.phrase + 10) / phrase_limit);
      within = at.within;
      long = sym (ap (λ c. phrase_len (phrase_learnt c)) own)
          ∙ (phrase_len-encoded cs allowed ∙ (length-take 11 (drop (11 * k) text) ∙ ap (min 11) (length-drop (11 * k) text)));
    }

pub full-part : (system : List Row) (cells : List Cell) (breaks : List ℕ) (pieces : List Piece) (stretch : Stretch) (k : ℕ) (call : Call) → list_all is_piece pieces ≡ true
    → Contains (stretches breaks pieces) stretch → slice_get (learns_of system cells stretch) k ≡ Some call → suc k < length (learns_of system cells stretch)
    → phrase_len (phrase_learnt call) ≡ 11
full-part system cells breaks pieces stretch k call e i f l =
    let h = HasParts-at system cells stretch k call (text-of breaks pieces stretch e i) f in
    let count = h.count in
    let long = h.long in
    omega arith

pub last-part : (system : List Row) (cells : List Cell) (breaks : List ℕ) (pieces : List Piece) (stretch : Stretch) (k : ℕ) (call : Call) → list_all is_piece pieces ≡ true
    → Contains (stretches breaks pieces) stretch → slice_get (learns_of system cells stretch) k ≡ Some call → suc k ≡ length (learns_of system cells stretch)
    → (1 ≤ phrase_len (phrase_learnt call)) × (phrase_len (phrase_learnt call) ≤ 11) × (phrase_len stretch.phrase ≡ 11 * k + phrase_len (phrase_learnt call))
last-part system cells breaks pieces stretch k call e i f l =
    let h = HasParts-at system cells stretch k call (text-of breaks pieces stretch e i) f in
    let count = h.count in
    let long = h.long in
    let within = h.within in
    (omega arith, omega arith, omega arith)
