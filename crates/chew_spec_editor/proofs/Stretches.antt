-- What Enter learns may be learnt.
use Rattle.std.specs.Prelude.{◌≡◌, ℕ, ◌+◌, ◌-◌, ◌*◌, ◌/◌, ◌<◌, ◌≤◌, min, true, List, [], ◌∷◌, ◌++◌, All, chars, drop, take, encode_utf8_all, flat_map, length, ◌==◌}
use Rattle.std.specs.List.{list_all, range_with_len}
use Rattle.std.proofs.Common.{refl, ap, sym, subst, ◌∙◌, arith, eqb-true, length-append, length-drop, length-take}
use Rattle.std.proofs.lemmas.Bool.{and_parts, cond_both}
use Rattle.std.proofs.lemmas.List.Elements.{All-cons, All-head, All-nil, All-tail}
use Rattle.std.proofs.lemmas.List.Folds.{list_all-append, list_all-map}
use Rattle.chew_spec_syllable.specs.Phrase.{is_phrase}
use Rattle.chew_spec_syllable.specs.Row.{Row, is_row}
use Rattle.chew_spec_dictionary.specs.History.{is_user_call}
use Rattle.chew_spec_phrasing.specs.Usable.{Piece, phrase_len}
use Rattle.chew_spec_preedit.specs.Cell.{Cell, has_sound, is_cell}
use Rattle.chew_spec_preedit.proofs.Kept.{list_all-join}
use Rattle.chew_spec_preedit.proofs.Parts.{list_all-drop, list_all-take}
use Rattle.chew_spec_editor.specs.Invariant.{covers, is_piece, piece_places}
use Rattle.chew_spec_editor.specs.Learning.{Stretch, go_together, key_at, learn_call, learns, learns_of, part_of, phrase_limit, stretch_of, stretches, with_stretch}
use Rattle.chew_spec_editor.proofs.Leading.{piece-some}
use Rattle.chew_spec_editor.proofs.SoundPlaces.{places-sound, range-all, range-each, range-joined, same-from_covers}
use Rattle.chew_spec_editor.proofs.Texts.{AreSounds-places, IsText, IsText-append, IsText-phrase, is_character, is_pair-at, is_proper-learn, phrase_len-encoded}

-- a stretch is a text over syllables
pub record IsOver (cells : List Cell) (stretch : Stretch) : Type 0 where
  pub text : IsText stretch.phrase
  pub some : 1 ≤ phrase_len stretch.phrase
  pub sounds : list_all (has_sound cells) (range_with_len stretch.start (phrase_len stretch.phrase)) ≡ true

joined : (cells : List Cell) (first second : Stretch) → IsOver cells first → IsOver cells second → second.start ≡ first.start + phrase_len first.phrase
    → IsOver cells (record { start = first.start; phrase = first.phrase ++ second.phrase; is_single = true })
joined cells first second h g e =
    let text = IsText-append first.phrase second.phrase h.text g.text in
    let long : phrase_len (first.phrase ++ second.phrase) ≡ phrase_len first.phrase + phrase_len second.phrase = ap length text.0 ∙ length-append (chars first.phrase) (chars second.phrase) in
    let some = h.some in
    record {
      text = text.1;
      some = omega arith;
      sounds = ap (λ n. list_all (has_sound cells) (range_with_len first.start n)) long
          ∙ (ap (list_all (has_sound cells)) (sym (range-joined first.start (phrase_len first.phrase) (phrase_len second.phrase) second.start e))
          ∙ list_all-join (has_sound cells) (range_with_len first.start (phrase_len first.phrase)) (range_with_len second.start (phrase_len second.phrase)) h.sounds g.sounds);
    }

with_stretch-over : (cells : List Cell) (breaks : List ℕ) (first : Stretch) (rest : List Stretch) → IsOver cells first → All (IsOver cells) rest → All (IsOver cells) (with_stretch breaks first rest)
with_stretch-over cells breaks first [] h more = All-cons (IsOver cells) first [] h more
with_stretch-over cells breaks first (second ∷ rest) h more =
    let g = All-head (IsOver cells) second rest more in
    let others = All-tail (IsOver cells) second rest more in
    cond_both (go_together breaks first second)
    (record { start = first.start; phrase = first.phrase ++ second.phrase; is_single = true } ∷ rest) (first ∷ (second ∷ rest))
    (All (IsOver cells))
    (λ e.
    let single = and_parts first.is_single _ e in
    let other = and_parts second.is_single _ single.1 in
    let starts = and_parts (second.start == first.start + phrase_len first.phrase) _ other.1 in
    All-cons (IsOver cells) (record { start = first.start; phrase = first.phrase ++ second.phrase; is_single = true }) rest
    (joined cells first second h g (eqb-true second.start (first.start + phrase_len first.phrase) starts.0)) others)
    (λ _. All-cons (IsOver cells) first (second ∷ rest) h more)

pub stretches-over : (cells : List Cell) (breaks : List ℕ) (pieces : List Piece) → list_all is_piece pieces ≡ true
    → list_all (has_sound cells) (flat_map piece_places pieces) ≡ true → All (IsOver cells) (stretches breaks pieces)
stretches-over cells breaks [] e s = All-nil (IsOver cells)
stretches-over cells breaks (piece ∷ pieces) e s =
    let is = and_parts (is_piece piece) (list_all is_piece pieces) e in
    let sounds = and_parts (list_all (has_sound cells) (piece_places piece)) (list_all (has_sound cells) (flat_map piece_places pieces))
    (sym (list_all-append (has_sound cells) (piece_places piece) (flat_map piece_places pieces)) ∙ s) in
    with_stretch-over cells breaks (stretch_of piece) (stretches breaks pieces)
    (record { text = IsText-phrase piece.phrase ((and_parts (is_phrase piece.phrase) _ is.0).0); some = piece-some piece is.0; sounds = sounds.0 })
    (stretches-over cells breaks pieces is.1 sounds.1)

-- each part of a stretch may be learnt
proper-part : (system : List Row) (cells : List Cell) (stretch : Stretch) (n : ℕ) → list_all is_row system ≡ true → list_all is_cell cells ≡ true → IsOver cells stretch
    → n < (phrase_len stretch.phrase + 10) / phrase_limit → is_user_call (part_of system cells stretch n) ≡ true
proper-part system cells stretch n e c h l =
    let text = chars stretch.phrase in
    let cs = take phrase_limit (drop (phrase_limit * n) text) in
    let long : length cs ≡ min 11 (length text - 11 * n) = length-take 11 (drop (11 * n) text) ∙ ap (min 11) (length-drop (11 * n) text) in
    let allowed = list_all-take is_character phrase_limit (drop (phrase_limit * n) text) (list_all-drop is_character (phrase_limit * n) text h.text.characters) in
    let count = phrase_len-encoded cs allowed in
    let from = stretch.start + phrase_limit * n in
    let fits : 11 * n + length cs ≤ length text = omega arith in
    let some : 1 ≤ length cs = omega arith in
    let sounds = AreSounds-places cells from (length cs) some
    (range-all (has_sound cells) from (length cs) (λ k a b. range-each (has_sound cells) stretch.start (length text) k h.sounds (omega arith) (omega arith))) in
    subst (λ (len : ℕ). is_user_call (learn_call system (key_at cells from len) (encode_utf8_all cs)) ≡ true) (sym count)
    (is_proper-learn system (key_at cells from (length cs)) (encode_utf8_all cs) e (is_pair-at cells from cs c sounds allowed some (omega arith)))

proper-learns_of : (system : List Row) (cells : List Cell) (stretch : Stretch) → list_all is_row system ≡ true → list_all is_cell cells ≡ true → IsOver cells stretch
    → list_all is_user_call (learns_of system cells stretch) ≡ true
unfolding learns_of
proper-learns_of system cells stretch e c h =
    let parts = (phrase_len stretch.phrase + 10) / phrase_limit in
    list_all-map is_user_call (part_of system cells stretch) (range_with_len 0 ((phrase_len stretch.phrase + 10) / phrase_limit))
    ∙ range-all (λ n. is_user_call (part_of system cells stretch n)) 0 ((phrase_len stretch.phrase + 10) / phrase_limit)
    (λ n _ l. proper-part system cells stretch n e c h (omega arith))

proper-all : (system : List Row) (cells : List Cell) (stretches : List Stretch) → list_all is_row system ≡ true → list_all is_cell cells ≡ true → All (IsOver cells) stretches
    → list_all is_user_call (flat_map (learns_of system cells) stretches) ≡ true
proper-all system cells [] e c h = refl
proper-all system cells (stretch ∷ rest) e c h =
    list_all-join is_user_call (learns_of system cells stretch) (flat_map (learns_of system cells) rest) (proper-learns_of system cells stretch e c (All-head (IsOver cells) stretch rest h))
    (proper-all system cells rest e c (All-tail (IsOver cells) stretch rest h))

pub proper-learns : (system : List Row) (cells : List Cell) (breaks : List ℕ) (pieces : List Piece) → list_all is_row system ≡ true → list_all is_cell cells ≡ true
    → covers cells pieces ≡ true → list_all is_piece pieces ≡ true → list_all is_user_call (learns system cells breaks pieces) ≡ true
unfolding learns
proper-learns system cells breaks pieces e c covered p =
    proper-all system cells (stretches breaks pieces) e c
    (stretches-over cells breaks pieces p
    (ap (list_all (has_sound cells)) (same-from_covers cells pieces covered)
    ∙ places-sound cells 0 cells (λ k. ap (has_sound cells) (let f : k ≡ 0 + k = omega arith in f))))
