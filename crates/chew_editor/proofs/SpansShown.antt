-- What Enter learns, by the places of the stretches: it is what their cells show.
use Rattle.std.specs.Prelude.{◌≡◌, ℕ, zero, suc, ◌+◌, ◌-◌, ◌*◌, ◌/◌, ◌<◌, ◌≤◌, Bool, true, min, List, [], ◌∷◌, ◌++◌, All, Contains, chars, drop, take, encode_utf8_all, flat_map, map, length, slice_get, ◌==◌}
use Rattle.std.specs.List.{list_all, range_with_len}
use Rattle.std.proofs.Common.{refl, ap, ap₂, sym, subst, ◌∙◌, arith, ⊎_elim, eqb-true, length-append}
use Rattle.std.proofs.lemmas.Bool.{and_parts, cases_lt, cond_both}
use Rattle.std.proofs.lemmas.List.{drop-drop, drop-take, length-drop, length-take, length-take-le, take-append-drop, take-take, take_all}
use Rattle.std.proofs.lemmas.List.Elements.{All-cons, All-contains, All-head, All-map, All-nil, All-tail, All-weaker}
use Rattle.std.proofs.lemmas.List.Folds.{list_all-append}
use Rattle.chew_spec_syllable.specs.Row.{Row, is_pair}
use Rattle.chew_spec_phrasing.specs.Usable.{Piece, phrase_len}
use Rattle.chew_spec_phrasing.proofs.Intervals.{flat_map-map, flat_map_alike}
use Rattle.chew_spec_phrasing.proofs.Membership.{Contains-cases, Contains-head, Contains-nil, Contains-tail}
use Rattle.chew_spec_preedit.specs.Cell.{Cell, has_sound, is_cell}
use Rattle.chew_spec_preedit.specs.ShownText.{characters_of}
use Rattle.chew_spec_preedit.proofs.Kept.{list_all-join}
use Rattle.chew_spec_preedit.proofs.Parts.{list_all-drop, list_all-take}
use Rattle.chew_spec_editor.specs.Invariant.{covers, is_piece, piece_places}
use Rattle.chew_spec_editor.specs.Learning.{Stretch, code_in, go_together, key_at, learn_call, learns, learns_of, part_of, phrase_limit, stretch_of, stretches, with_stretch}
use Rattle.chew_spec_editor.proofs.Leading.{piece-some}
use Rattle.chew_spec_editor.proofs.ShownChoices.{shown-of_piece}
use Rattle.chew_spec_editor.proofs.ShownRows.{passes}
use Rattle.chew_spec_editor.proofs.SoundPlaces.{places-sound, range-all, range-each, range-joined, same-from_covers}
use Rattle.chew_spec_editor.proofs.Texts.{AreSounds-places, IsText, IsText-append, is_character, is_pair-at, phrase_len-encoded}
use Rattle.chew_editor.specs.Spans.{IsSpan, Span, eleven, learn_of, learns_from, learns_in, part_in, span_of, spans_from}
use Rattle.chew_editor.proofs.SpansAre.{places_of, spans-are, text-of_piece}

-- a text over syllables, which show it
record IsShownAt (cells : List Cell) (shown : List ℕ) (stretch : Stretch) : Type 0 where
  pub text : IsText stretch.phrase
  pub some : 1 ≤ phrase_len stretch.phrase
  pub sounds : list_all (has_sound cells) (range_with_len stretch.start (phrase_len stretch.phrase)) ≡ true
  pub same : take (phrase_len stretch.phrase) (drop stretch.start shown) ≡ chars stretch.phrase

-- the first elements, and those behind them
take-split : {X : Type 0} (m n : ℕ) (xs : List X) → take (m + n) xs ≡ take m xs ++ take n (drop m xs)
take-split m n xs =
    sym (take-append-drop m (take (m + n) xs))
    ∙ ap₂ (λ ys zs. ys ++ zs) (take-take m (m + n) xs (omega arith)) (drop-take m n xs)

joined-shown : (cells : List Cell) (shown : List ℕ) (first second : Stretch) → IsShownAt cells shown first → IsShownAt cells shown second
    → second.start ≡ first.start + phrase_len first.phrase
    → IsShownAt cells shown (record { start = first.start; phrase = first.phrase ++ second.phrase; is_single = true })
joined-shown cells shown first second h g e =
    let m = phrase_len first.phrase in
    let n = phrase_len second.phrase in
    let text = IsText-append first.phrase second.phrase h.text g.text in
    let long : phrase_len (first.phrase ++ second.phrase) ≡ phrase_len first.phrase + phrase_len second.phrase = ap length text.0 ∙ length-append (chars first.phrase) (chars second.phrase) in
    let some = h.some in
    record {
      text = text.1;
      some = omega arith;
      sounds = ap (λ k. list_all (has_sound cells) (range_with_len first.start k)) long
          ∙ (ap (list_all (has_sound cells)) (sym (range-joined first.start m n second.start e))
          ∙ list_all-join (has_sound cells) (range_with_len first.start m) (range_with_len second.start n) h.sounds g.sounds);
      same = ap (λ k. take k (drop first.start shown)) long
          ∙ (take-split m n (drop first.start shown)
          ∙ (ap₂ (λ xs ys. xs ++ ys) h.same
          (ap (take n) (drop-drop m first.start shown ∙ ap (λ k. drop k shown) (sym e)) ∙ g.same)
          ∙ sym text.0));
    }

with_stretch-shown : (cells : List Cell) (shown : List ℕ) (breaks : List ℕ) (first : Stretch) (rest : List Stretch) → IsShownAt cells shown first → All (IsShownAt cells shown) rest
    → All (IsShownAt cells shown) (with_stretch breaks first rest)
with_stretch-shown cells shown breaks first [] h more = All-cons (IsShownAt cells shown) first [] h more
with_stretch-shown cells shown breaks first (second ∷ rest) h more =
    cond_both (go_together breaks first second)
    (record { start = first.start; phrase = first.phrase ++ second.phrase; is_single = true } ∷ rest) (first ∷ (second ∷ rest))
    (All (IsShownAt cells shown))
    (λ e.
    let two = and_parts second.is_single _ (and_parts first.is_single _ e).1 in
    let starts = and_parts (second.start == first.start + phrase_len first.phrase) _ two.1 in
    All-cons (IsShownAt cells shown) (record { start = first.start; phrase = first.phrase ++ second.phrase; is_single = true }) rest
    (joined-shown cells shown first second h (All-head (IsShownAt cells shown) second rest more) (eqb-true second.start (first.start + phrase_len first.phrase) starts.0))
    (All-tail (IsShownAt cells shown) second rest more))
    (λ _. All-cons (IsShownAt cells shown) first (second ∷ rest) h more)

stretches-shown : (cells : List Cell) (shown : List ℕ) (breaks : List ℕ) (pieces : List Piece) → ((piece : Piece) → Contains pieces piece → IsShownAt cells shown (stretch_of piece))
    → All (IsShownAt cells shown) (stretches breaks pieces)
stretches-shown cells shown breaks [] h = All-nil (IsShownAt cells shown)
stretches-shown cells shown breaks (piece ∷ pieces) h =
    with_stretch-shown cells shown breaks (stretch_of piece) (stretches breaks pieces) (h piece (Contains-head piece pieces))
    (stretches-shown cells shown breaks pieces (λ other i. h other (Contains-tail piece pieces other i)))

-- what all places of pieces pass, those of each
own-places : (q : ℕ → Bool) (pieces : List Piece) (piece : Piece) → Contains pieces piece → list_all q (flat_map piece_places pieces) ≡ true → list_all q (piece_places piece) ≡ true
own-places q [] piece i e = absurd (Contains-nil piece i)
own-places q (first ∷ pieces) piece i e =
    let parts = and_parts (list_all q (piece_places first)) (list_all q (flat_map piece_places pieces)) (sym (list_all-append q (piece_places first) (flat_map piece_places pieces)) ∙ e) in
    ⊎_elim
    (λ same. subst (λ p. list_all q (piece_places p) ≡ true) same parts.0)
    (λ later. own-places q pieces piece later parts.1)
    (Contains-cases first pieces piece i)

-- each piece is shown at its place
piece-shown : (cells : List Cell) (pieces : List Piece) (piece : Piece) → covers cells pieces ≡ true → list_all is_piece pieces ≡ true → Contains pieces piece
    → IsShownAt cells (characters_of pieces cells) (stretch_of piece)
piece-shown cells pieces piece c e i =
    let is = passes is_piece pieces piece e i in
    let some = piece-some piece is in
    let sounds = own-places (has_sound cells) pieces piece i
    (ap (list_all (has_sound cells)) (same-from_covers cells pieces c) ∙ places-sound cells 0 cells (λ k. ap (has_sound cells) (let f : k ≡ 0 + k = omega arith in f))) in
    record {
      text = text-of_piece piece is;
      some = some;
      sounds = sounds;
      same = shown-of_piece cells pieces piece piece.start (chars piece.phrase) c e i (AreSounds-places cells piece.start (phrase_len piece.phrase) some sounds)
          (omega arith) (omega arith) (λ k l. ap (slice_get (chars piece.phrase)) (let f : piece.start + k - piece.start ≡ k = omega arith in f));
    }

-- some of the first elements
take-twice : {X : Type 0} (a m k : ℕ) (xs : List X) → k ≡ min a m → take a (take m xs) ≡ take k xs
take-twice a m k xs e =
    ⊎_elim
    (λ less. let l = less in take-take a m xs (omega arith) ∙ ap (λ n. take n xs) (let f : a ≡ k = omega arith in f))
    (λ more. let l = more in take_all a (take m xs) (omega (arith, length-take m xs)) ∙ ap (λ n. take n xs) (let f : m ≡ k = omega arith in f))
    (cases_lt a m)

-- the n-th eleven of a part
eleven-part : {X : Type 0} (start len n k : ℕ) (xs : List X) → phrase_limit * n ≤ len → k ≡ min phrase_limit (len - phrase_limit * n)
    → eleven n (take len (drop start xs)) ≡ take k (drop (start + phrase_limit * n) xs)
eleven-part start len n k xs l e =
    let from = 11 * n in
    ap (take 11) (ap (λ m. drop from (take m (drop start xs))) (let f : len ≡ from + (len - from) = omega arith in f) ∙ drop-take from (len - from) (drop start xs))
    ∙ (take-twice 11 (len - from) k (drop from (drop start xs)) e
    ∙ ap (take k) (drop-drop from start xs))

-- the part of a stretch's cells, and what they show
record HasPart (cells : List Cell) (shown : List ℕ) (stretch : Stretch) : Type 0 where
  pub own : part_in (places_of stretch) cells ≡ take (phrase_len stretch.phrase) (drop stretch.start cells)
  pub own_shown : part_in (places_of stretch) shown ≡ chars stretch.phrase
  pub count : length (part_in (places_of stretch) cells) ≡ phrase_len stretch.phrase
  pub within : stretch.start + phrase_len stretch.phrase ≤ length cells
  pub within_shown : stretch.start + phrase_len stretch.phrase ≤ length shown

HasPart-shown : (cells : List Cell) (shown : List ℕ) (stretch : Stretch) → IsShownAt cells shown stretch → HasPart cells shown stretch
HasPart-shown cells shown stretch h =
    let len = phrase_len stretch.phrase in
    let start = stretch.start in
    let sounds = AreSounds-places cells start len h.some h.sounds in
    let within = sounds.within in
    let some = h.some in
    let long : start + len - start ≡ len = omega arith in
    record {
      own = ap (λ n. take n (drop start cells)) long;
      own_shown = ap (λ n. take n (drop start shown)) long ∙ h.same;
      count = ap (λ n. length (take n (drop start cells))) long ∙ length-take-le len (drop start cells) (omega (arith, length-drop start cells));
      within = within;
      within_shown = omega (arith, ap length h.same, length-take len (drop start shown), length-drop start shown);
    }

-- the n-th part
record HasEleven (cells : List Cell) (stretch : Stretch) (n : ℕ) : Type 0 where
  pub count : length (eleven n (chars stretch.phrase)) ≡ min phrase_limit (phrase_len stretch.phrase - phrase_limit * n)
  pub characters : list_all is_character (eleven n (chars stretch.phrase)) ≡ true
  pub key : (k : ℕ) → k ≡ length (eleven n (chars stretch.phrase)) → flat_map code_in (eleven n (part_in (places_of stretch) cells)) ≡ key_at cells (stretch.start + phrase_limit * n) k

HasEleven-at : (cells : List Cell) (shown : List ℕ) (stretch : Stretch) (n : ℕ) → IsShownAt cells shown stretch → phrase_limit * n ≤ phrase_len stretch.phrase → HasEleven cells stretch n
HasEleven-at cells shown stretch n h l =
    let text = chars stretch.phrase in
    let long : length (eleven n (chars stretch.phrase)) ≡ min 11 (length text - 11 * n) = length-take 11 (drop (11 * n) text) ∙ ap (min 11) (length-drop (11 * n) text) in
    record {
      count = long;
      characters = list_all-take is_character phrase_limit (drop (phrase_limit * n) text) (list_all-drop is_character (phrase_limit * n) text h.text.characters);
      key = λ k e. ap (flat_map code_in)
          (ap (eleven n) (HasPart-shown cells shown stretch h).own ∙ eleven-part stretch.start (phrase_len stretch.phrase) n k cells l (e ∙ long));
    }

-- the parts of a stretch are those of its cells as they are shown
learns-shown : (system : List Row) (cells : List Cell) (shown : List ℕ) (stretch : Stretch) → IsShownAt cells shown stretch
    → learns_of system cells stretch ≡ learns_in system (part_in (places_of stretch) cells) (part_in (places_of stretch) shown)
unfolding learns_of learns_in
learns-shown system cells shown stretch h =
    let own = part_in (places_of stretch) cells in
    let own_shown = part_in (places_of stretch) shown in
    let part = HasPart-shown cells shown stretch h in
    let count = (phrase_len stretch.phrase + 10) / phrase_limit in
    map_within (part_of system cells stretch) (λ n. learn_of system (eleven n own) (eleven n own_shown)) 0 count
    (λ n _ l.
    let is = HasEleven-at cells shown stretch n h (omega arith) in
    let cs = eleven n (chars stretch.phrase) in
    ap₂ (learn_call system) (sym (is.key (phrase_len (encode_utf8_all cs)) (phrase_len-encoded cs is.characters)))
    (ap (λ text. encode_utf8_all (eleven n text)) (sym part.own_shown)))
    ∙ ap (λ m. map (λ n. learn_of system (eleven n own) (eleven n own_shown)) (range_with_len 0 ((m + 10) / phrase_limit))) (sym part.count)
  where
    map_within : {X : Type 0} (f g : ℕ → X) (a n : ℕ) → ((k : ℕ) → a ≤ k → k < a + n → f k ≡ g k) → map f (range_with_len a n) ≡ map g (range_with_len a n)
    map_within f g a zero h = refl
    map_within f g a (suc n) h = ap₂ (λ x xs. x ∷ xs) (h a (omega arith) (omega arith)) (map_within f g (a + 1) n (λ k l m. h k (omega arith) (omega arith)))

-- each part may be learnt
span-shown : (cells : List Cell) (shown : List ℕ) (stretch : Stretch) → list_all is_cell cells ≡ true → IsShownAt cells shown stretch → IsSpan cells shown (places_of stretch)
span-shown cells shown stretch c h =
    let part = HasPart-shown cells shown stretch h in
    let len = phrase_len stretch.phrase in
    let own_count = part.count in
    let within = part.within in
    record {
      in_order = omega arith;
      within = within;
      within_shown = part.within_shown;
      pairs = record {
        count = ap length part.own_shown ∙ sym part.count;
        each = λ n l.
            let is = HasEleven-at cells shown stretch n h (omega arith) in
            let cs = eleven n (chars stretch.phrase) in
            let count = is.count in
            let from = stretch.start + phrase_limit * n in
            let sounds = AreSounds-places cells from (length cs) (omega arith)
            (range-all (has_sound cells) from (length cs) (λ k a b. range-each (has_sound cells) stretch.start len k h.sounds (omega arith) (omega arith))) in
            subst (λ text. is_pair (flat_map code_in (eleven n (part_in (places_of stretch) cells))) (encode_utf8_all (eleven n text)) ≡ true) (sym part.own_shown)
            (subst (λ key. is_pair key (encode_utf8_all (eleven n (chars stretch.phrase))) ≡ true) (sym (is.key (length cs) refl))
            (is_pair-at cells from cs c sounds is.characters (omega arith) (omega arith)));
      };
    }

-- the spans that pieces make
record AreSpans (cells : List Cell) (shown : List ℕ) (breaks : List ℕ) (first : Piece) (others : List Piece) : Type 0 where
  pub spans : map places_of (stretches breaks (first ∷ others)) ≡ spans_from breaks (span_of first) others
  pub are_shown : All (IsShownAt cells shown) (stretches breaks (first ∷ others))

AreSpans-pieces : (cells : List Cell) (breaks : List ℕ) (first : Piece) (others : List Piece) → covers cells (first ∷ others) ≡ true → list_all is_piece (first ∷ others) ≡ true
    → AreSpans cells (characters_of (first ∷ others) cells) breaks first others
AreSpans-pieces cells breaks first others c e =
    let parts = and_parts (is_piece first) (list_all is_piece others) e in
    record {
      spans = spans-are breaks (stretch_of first) others (text-of_piece first parts.0) parts.1;
      are_shown = stretches-shown cells (characters_of (first ∷ others) cells) breaks (first ∷ others) (λ piece i. piece-shown cells (first ∷ others) piece c e i);
    }

pub spans-fit : (cells : List Cell) (breaks : List ℕ) (first : Piece) (others : List Piece) → list_all is_cell cells ≡ true → covers cells (first ∷ others) ≡ true
    → list_all is_piece (first ∷ others) ≡ true → All (IsSpan cells (characters_of (first ∷ others) cells)) (spans_from breaks (span_of first) others)
spans-fit cells breaks first others is c e =
    let shown = characters_of (first ∷ others) cells in
    let are = AreSpans-pieces cells breaks first others c e in
    subst (All (IsSpan cells shown)) are.spans
    (All-map (IsSpan cells shown) places_of (stretches breaks (first ∷ others))
    (All-weaker (IsShownAt cells shown) (λ s. IsSpan cells shown (places_of s)) (λ s h. span-shown cells shown s is h) (stretches breaks (first ∷ others)) are.are_shown))

pub learns-are : (system : List Row) (cells : List Cell) (breaks : List ℕ) (first : Piece) (others : List Piece) → covers cells (first ∷ others) ≡ true → list_all is_piece (first ∷ others) ≡ true
    → learns_from system breaks cells (characters_of (first ∷ others) cells) (span_of first) others ≡ learns system cells breaks (first ∷ others)
unfolding learns
learns-are system cells breaks first others c e =
    let shown = characters_of (first ∷ others) cells in
    let are = AreSpans-pieces cells breaks first others c e in
    let all = stretches breaks (first ∷ others) in
    let own = λ (s : Span). learns_in system (part_in s cells) (part_in s shown) in
    sym (flat_map_alike (learns_of system cells) (λ s. learns_in system (part_in (places_of s) cells) (part_in (places_of s) shown)) all
    (λ s i. learns-shown system cells shown s (All-contains (IsShownAt cells shown) all s are.are_shown i))
    ∙ (sym (flat_map-map own places_of all) ∙ ap (flat_map own) are.spans))
