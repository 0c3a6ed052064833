-- What Enter and a release commit and learn.
use Rattle.std.specs.Prelude.{◌≡◌, ℕ, zero, suc, ◌+◌, ◌*◌, ◌/◌, ◌<◌, ◌≤◌, Bool, true, false, not, ◌&&◌, ◌⊎◌, List, [], ◌∷◌, ◌++◌, All, Contains, chars, drop, take, encode_utf8_all, flat_map, map, length, ◌==◌, None, if◌then◌else◌}
use Rattle.std.specs.List.{list_all, range_with_len}
use Rattle.std.proofs.Common.{refl, ap, ap₂, sym, subst, ◌∙◌, arith, append_assoc, eqb-true, inl, inr, ⊎_elim, length-append}
use Rattle.std.proofs.lemmas.Bool.{and_from, and_left, and_parts, and_right, both_ways, cases_lt, cond-false, cond-true, cond_both, eq-eqb, ne_eqb, not-true, or_parts}
use Rattle.std.proofs.lemmas.List.{drop-drop, drop_all, take-append-drop}
use Rattle.std.proofs.lemmas.List.Concat.{flat_map-append}
use Rattle.std.proofs.lemmas.List.Elements.{All-cons, All-contains, All-head, All-nil, All-tail}
use Rattle.std.proofs.lemmas.Str.{encodes-append, encodes-chars}
use Rattle.chew_spec_syllable.specs.Phrase.{is_phrase}
use Rattle.chew_spec_syllable.specs.Row.{Row}
use Rattle.chew_spec_dictionary.specs.Call.{Call}
use Rattle.chew_spec_layout.specs.Layout.{holds}
use Rattle.chew_spec_phrasing.specs.Usable.{Piece, phrase_len}
use Rattle.chew_spec_phrasing.proofs.Membership.{Contains-cases, Contains-head, Contains-nil, Contains-tail}
use Rattle.chew_spec_preedit.specs.Cell.{Cell, has_sound}
use Rattle.chew_spec_preedit.specs.Edit.{emptied, has_break, inserted, is_full, released}
use Rattle.chew_spec_preedit.proofs.Spliced.{is_outside, is_outside-left, is_outside-right, outside-from}
use Rattle.chew_spec_text.specs.KeyStroke.{Enter}
use Rattle.chew_spec_editor.specs.Commits.{buffer_left, changes_made, committed, phrase_learnt}
use Rattle.chew_spec_editor.specs.Editor.{Editor, characters_of, line_of, shown_text}
use Rattle.chew_spec_editor.specs.Finish.{finish}
use Rattle.chew_spec_editor.specs.Invariant.{is_piece}
use Rattle.chew_spec_editor.specs.Keys.{press, press_free, press_plain}
use Rattle.chew_spec_editor.specs.Learning.{Stretch, go_together, learns, learns_of, part_of, phrase_limit, stretch_of, stretches, with_stretch}
use Rattle.chew_spec_editor.specs.Pending.{Pending, calls_of, with_buffer}
use Rattle.chew_spec_editor.specs.Press.{Done, Ask, asking, bell, edit, insert, leading_cells, leading_learns, learn_shown, press_enter, releasing, text_at}
use Rattle.chew_spec_editor.proofs.Moves.{press-free, press-plain}
use Rattle.chew_spec_editor.proofs.Texts.{IsText, IsText-append, IsText-phrase}

-- a key commits what is pending, and leaves its buffer
committed-asking : (system : List Row) (pending : Pending) → committed (asking system pending) ≡ pending.commit
unfolding asking finish line_of
committed-asking system pending =
    cond_both (length (calls_of pending) == 0) (Done (finish system pending []).editor (finish system pending []).line) (Ask pending) (λ p. committed p ≡ pending.commit) (λ _. refl) (λ _. refl)

left-asking : (system : List Row) (pending : Pending) → buffer_left (asking system pending) ≡ pending.editor.buffer
unfolding asking finish line_of
left-asking system pending =
    cond_both (length (calls_of pending) == 0) (Done (finish system pending []).editor (finish system pending []).line) (Ask pending) (λ p. buffer_left p ≡ pending.editor.buffer) (λ _. refl) (λ _. refl)

no-changes : (changes more : List Call) (n : ℕ) → length (changes ++ more) ≡ 0 → [] ≡ changes
no-changes [] more n e = refl
no-changes (call ∷ changes) more n e = absurd (omega arith)

changes-asking : (system : List Row) (pending : Pending) → changes_made (asking system pending) ≡ pending.changes
unfolding asking
changes-asking system pending =
    cond_both (length (calls_of pending) == 0) (Done (finish system pending []).editor (finish system pending []).line) (Ask pending) (λ p. changes_made p ≡ pending.changes)
    (λ e. no-changes pending.changes _ 0 (eqb-true (length (calls_of pending)) 0 e)) (λ _. refl)

-- what Enter does
entering : Editor → List Row → Pending
entering editor system = record (with_buffer editor (emptied editor.buffer)) {
  changes = if editor.settings.learn then learns system editor.buffer.cells editor.buffer.breaks editor.pieces else [];
  commit = shown_text editor;
}

press-entering : (system : List Row) (editor : Editor) → editor.window ≡ None → holds editor.layout ≡ false → 0 < length editor.buffer.cells
    → press system editor Enter ≡ asking system (entering editor system)
unfolding press_plain press_free press_enter entering
press-entering system editor w h l =
    press-plain system editor Enter w
    ∙ (press-free system editor (press_enter system editor) h
    ∙ cond-false (length editor.buffer.cells == 0) (bell editor) (asking system (entering editor system)) (ne_eqb (length editor.buffer.cells) 0 (λ e. omega arith)))

pub enter-commits : (system : List Row) (editor : Editor) → editor.window ≡ None → holds editor.layout ≡ false → 0 < length editor.buffer.cells
    → committed (press system editor Enter) ≡ shown_text editor
unfolding entering
enter-commits system editor w h l = ap committed (press-entering system editor w h l) ∙ committed-asking system (entering editor system)

pub enter-empties : (system : List Row) (editor : Editor) → editor.window ≡ None → holds editor.layout ≡ false → 0 < length editor.buffer.cells
    → buffer_left (press system editor Enter) ≡ emptied editor.buffer
unfolding entering
enter-empties system editor w h l = ap buffer_left (press-entering system editor w h l) ∙ left-asking system (entering editor system)

pub enter-learns : (system : List Row) (editor : Editor) → editor.window ≡ None → holds editor.layout ≡ false → 0 < length editor.buffer.cells → editor.settings.learn ≡ true
    → changes_made (press system editor Enter) ≡ learns system editor.buffer.cells editor.buffer.breaks editor.pieces
unfolding entering
enter-learns system editor w h l on =
    ap changes_made (press-entering system editor w h l)
    ∙ (changes-asking system (entering editor system) ∙ cond-true editor.settings.learn (learns system editor.buffer.cells editor.buffer.breaks editor.pieces) [] on)

pub enter-without_learning : (system : List Row) (editor : Editor) → editor.window ≡ None → holds editor.layout ≡ false → 0 < length editor.buffer.cells → editor.settings.learn ≡ false
    → changes_made (press system editor Enter) ≡ []
unfolding entering
enter-without_learning system editor w h l off =
    ap changes_made (press-entering system editor w h l)
    ∙ (changes-asking system (entering editor system) ∙ cond-false editor.settings.learn (learns system editor.buffer.cells editor.buffer.breaks editor.pieces) [] off)

-- what is learnt of a stretch, from a part on, is the rest of its text
parts-joined : (system : List Row) (cells : List Cell) (stretch : Stretch) (n count : ℕ) → length (chars stretch.phrase) ≤ phrase_limit * (n + count)
    → flat_map phrase_learnt (map (part_of system cells stretch) (range_with_len n count)) ≡ encode_utf8_all (drop (phrase_limit * n) (chars stretch.phrase))
parts-joined system cells stretch n zero l = ap encode_utf8_all (sym (drop_all (phrase_limit * n) (chars stretch.phrase) (omega arith)))
parts-joined system cells stretch n (suc count) l =
    let text = chars stretch.phrase in
    let rest = drop (phrase_limit * n) text in
    ap (λ ps. encode_utf8_all (take phrase_limit rest) ++ ps) (parts-joined system cells stretch (n + 1) count (omega arith))
    ∙ (ap (λ ps. encode_utf8_all (take phrase_limit rest) ++ encode_utf8_all ps)
    (ap (λ k. drop k text) (let f : phrase_limit * (n + 1) ≡ phrase_limit * n + phrase_limit = omega arith in f) ∙ sym (drop-drop phrase_limit (phrase_limit * n) text))
    ∙ (sym (encodes-append (take phrase_limit rest) (drop phrase_limit rest)) ∙ ap encode_utf8_all (take-append-drop phrase_limit rest)))

pub learns_of-joined : (system : List Row) (cells : List Cell) (stretch : Stretch) → IsText stretch.phrase → flat_map phrase_learnt (learns_of system cells stretch) ≡ stretch.phrase
unfolding learns_of
learns_of-joined system cells stretch h =
    parts-joined system cells stretch 0 ((phrase_len stretch.phrase + 10) / phrase_limit) (omega arith) ∙ encodes-chars stretch.phrase h.utf8

-- a stretch of texts
with_stretch-text : (breaks : List ℕ) (first : Stretch) (rest : List Stretch) → IsText first.phrase → All (λ s. IsText s.phrase) rest
    → All (λ s. IsText s.phrase) (with_stretch breaks first rest) × (flat_map (λ s. s.phrase) (with_stretch breaks first rest) ≡ first.phrase ++ flat_map (λ s. s.phrase) rest)
with_stretch-text breaks first [] h g = (All-cons (λ s. IsText s.phrase) first [] h g, refl)
with_stretch-text breaks first (second ∷ rest) h g =
    let P = λ (s : Stretch). IsText s.phrase in
    cond_both (go_together breaks first second)
    (record { start = first.start; phrase = first.phrase ++ second.phrase; is_single = true } ∷ rest) (first ∷ (second ∷ rest))
    (λ ss. All (λ s. IsText s.phrase) ss × (flat_map (λ s. s.phrase) ss ≡ first.phrase ++ (second.phrase ++ flat_map (λ s. s.phrase) rest)))
    (λ _. (
      All-cons (λ s. IsText s.phrase) (record { start = first.start; phrase = first.phrase ++ second.phrase; is_single = true }) rest
          ((IsText-append first.phrase second.phrase h (All-head (λ s. IsText s.phrase) second rest g)).1) (All-tail (λ s. IsText s.phrase) second rest g),
      append_assoc first.phrase second.phrase (flat_map (λ s. s.phrase) rest),
    ))
    (λ _. (All-cons (λ s. IsText s.phrase) first (second ∷ rest) h g, refl))

pub stretches-text : (breaks : List ℕ) (pieces : List Piece) → list_all is_piece pieces ≡ true
    → All (λ s. IsText s.phrase) (stretches breaks pieces) × (flat_map (λ s. s.phrase) (stretches breaks pieces) ≡ flat_map (λ piece. piece.phrase) pieces)
stretches-text breaks [] e = (All-nil (λ s. IsText s.phrase), refl)
stretches-text breaks (piece ∷ pieces) e =
    let parts = and_parts (is_piece piece) (list_all is_piece pieces) e in
    let rest = stretches-text breaks pieces parts.1 in
    let step = with_stretch-text breaks (stretch_of piece) (stretches breaks pieces) (IsText-phrase piece.phrase ((and_parts (is_phrase piece.phrase) _ parts.0).0)) rest.0 in
    (step.0, step.1 ∙ ap (λ text. piece.phrase ++ text) rest.1)

all-joined : (system : List Row) (cells : List Cell) (all : List Stretch) → All (λ s. IsText s.phrase) all
    → flat_map phrase_learnt (flat_map (learns_of system cells) all) ≡ flat_map (λ s. s.phrase) all
all-joined system cells [] h = refl
all-joined system cells (stretch ∷ all) h =
    flat_map-append phrase_learnt (learns_of system cells stretch) (flat_map (learns_of system cells) all)
    ∙ ap₂ (λ ps qs. ps ++ qs) (learns_of-joined system cells stretch (All-head (λ s. IsText s.phrase) stretch all h))
    (all-joined system cells all (All-tail (λ s. IsText s.phrase) stretch all h))

-- what is learnt, one after another, is the text of all pieces
pub learns-joined : (system : List Row) (cells : List Cell) (breaks : List ℕ) (pieces : List Piece) → list_all is_piece pieces ≡ true
    → flat_map phrase_learnt (learns system cells breaks pieces) ≡ flat_map (λ piece. piece.phrase) pieces
unfolding learns
learns-joined system cells breaks pieces e =
    let h = stretches-text breaks pieces e in
    all-joined system cells (stretches breaks pieces) h.0 ∙ h.1

-- a stretch that isn't of single syllables stays by itself
kept-apart : (breaks : List ℕ) (first : Stretch) (rest : List Stretch) (stretch : Stretch) → stretch.is_single ≡ false → Contains (first ∷ rest) stretch
    → Contains (with_stretch breaks first rest) stretch
kept-apart breaks first [] stretch e i = i
kept-apart breaks first (second ∷ rest) stretch e i =
    cond_both (go_together breaks first second)
    (record { start = first.start; phrase = first.phrase ++ second.phrase; is_single = true } ∷ rest) (first ∷ (second ∷ rest))
    (λ ss. Contains ss stretch)
    (λ f.
    let one = and_parts first.is_single _ f in
    let two = and_parts second.is_single _ one.1 in
    ⊎_elim
    (λ same. absurd (both_ways stretch.is_single e (ap (λ (s : Stretch). s.is_single) (sym same) ∙ one.0)))
    (λ later. ⊎_elim
    (λ same. absurd (both_ways stretch.is_single e (ap (λ (s : Stretch). s.is_single) (sym same) ∙ two.0)))
    (λ last. Contains-tail (record { start = first.start; phrase = first.phrase ++ second.phrase; is_single = true }) rest stretch last)
    (Contains-cases second rest stretch later))
    (Contains-cases first (second ∷ rest) stretch i))
    (λ _. i)

pub long-pieces : (breaks : List ℕ) (pieces : List Piece) (piece : Piece) → Contains pieces piece → (phrase_len piece.phrase == 1) ≡ false → Contains (stretches breaks pieces) (stretch_of piece)
long-pieces breaks [] piece i e = absurd (Contains-nil piece i)
long-pieces breaks (first ∷ pieces) piece i e =
    kept-apart breaks (stretch_of first) (stretches breaks pieces) (stretch_of piece) e
    (⊎_elim
    (λ same. subst (λ p. Contains (stretch_of first ∷ stretches breaks pieces) (stretch_of p)) same (Contains-head (stretch_of first) (stretches breaks pieces)))
    (λ later. Contains-tail (stretch_of first) (stretches breaks pieces) (stretch_of piece) (long-pieces breaks pieces piece later e))
    (Contains-cases first pieces piece i))

-- no break strictly inside a stretch
abbrev pub is_whole_stretch : List ℕ → Stretch → Bool
is_whole_stretch breaks stretch = list_all (is_outside stretch.start (stretch.start + phrase_len stretch.phrase)) breaks

-- what is outside of both, and not where they meet, is outside of both joined
joined-whole : (start middle end : ℕ) (breaks : List ℕ) → start ≤ middle → middle ≤ end → list_all (is_outside start middle) breaks ≡ true → list_all (is_outside middle end) breaks ≡ true
    → has_break breaks middle ≡ false → list_all (is_outside start end) breaks ≡ true
joined-whole start middle end [] l m e f n = refl
joined-whole start middle end (at ∷ breaks) l m e f n =
    let first = and_parts (is_outside start middle at) (list_all (is_outside start middle) breaks) e in
    let second = and_parts (is_outside middle end at) (list_all (is_outside middle end) breaks) f in
    let apart = or_parts (at == middle) (has_break breaks middle) n in
    and_from (is_outside start end at) (list_all (is_outside start end) breaks)
    (⊎_elim
    (λ left. is_outside-left start end at left)
    (λ right. ⊎_elim
    (λ left. absurd (both_ways (at == middle) apart.0 (eq-eqb at middle (let a = left in let b = right in omega arith))))
    (λ beyond. is_outside-right start end at beyond)
    (outside-from middle end at second.0))
    (outside-from start middle at first.0))
    (joined-whole start middle end breaks l m first.1 second.1 apart.1)

single-whole : (start : ℕ) (breaks : List ℕ) (end : ℕ) → end ≡ start + 1 → list_all (is_outside start end) breaks ≡ true
single-whole start [] end e = refl
single-whole start (at ∷ breaks) end e =
    and_from (is_outside start end at) (list_all (is_outside start end) breaks) (by_place (cases_lt start at)) (single-whole start breaks end e)
  where
    by_place : ((start < at) ⊎ (at ≤ start)) → is_outside start end at ≡ true
    by_place (inl after) = is_outside-right start end at (let f : end ≡ start + 1 = e in omega arith)
    by_place (inr before) = is_outside-left start end at before

-- a stretch of single syllables is of texts and whole
record IsGood (breaks : List ℕ) (stretch : Stretch) : Type 0 where
  pub text : IsText stretch.phrase
  pub whole : stretch.is_single ≡ true → is_whole_stretch breaks stretch ≡ true

good-joined : (breaks : List ℕ) (first second : Stretch) → IsGood breaks first → IsGood breaks second → go_together breaks first second ≡ true
    → IsGood breaks (record { start = first.start; phrase = first.phrase ++ second.phrase; is_single = true })
good-joined breaks first second h g e =
    let one = and_parts first.is_single _ e in
    let two = and_parts second.is_single _ one.1 in
    let meets = and_parts (second.start == first.start + phrase_len first.phrase) (not (has_break breaks second.start)) two.1 in
    let from = eqb-true second.start (first.start + phrase_len first.phrase) meets.0 in
    let text = IsText-append first.phrase second.phrase h.text g.text in
    let end = second.start + phrase_len second.phrase in
    let long : end ≡ first.start + phrase_len (first.phrase ++ second.phrase) =
    let count = ap length text.0 ∙ length-append (chars first.phrase) (chars second.phrase) in omega arith in
    record {
      text = text.1;
      whole = λ _. subst (λ (n : ℕ). list_all (is_outside first.start n) breaks ≡ true) long
          (joined-whole first.start second.start end breaks (omega arith) (omega arith)
          (subst (λ (n : ℕ). list_all (is_outside first.start n) breaks ≡ true) (sym from) (h.whole one.0)) (g.whole two.0)
          (not-true (has_break breaks second.start) meets.1));
    }

good-with_stretch : (breaks : List ℕ) (first : Stretch) (rest : List Stretch) → IsGood breaks first → All (IsGood breaks) rest → All (IsGood breaks) (with_stretch breaks first rest)
good-with_stretch breaks first [] h g = All-cons (IsGood breaks) first [] h g
good-with_stretch breaks first (second ∷ rest) h g =
    cond_both (go_together breaks first second)
    (record { start = first.start; phrase = first.phrase ++ second.phrase; is_single = true } ∷ rest) (first ∷ (second ∷ rest))
    (All (IsGood breaks))
    (λ e. All-cons (IsGood breaks) (record { start = first.start; phrase = first.phrase ++ second.phrase; is_single = true }) rest
    (good-joined breaks first second h (All-head (IsGood breaks) second rest g) e) (All-tail (IsGood breaks) second rest g))
    (λ _. All-cons (IsGood breaks) first (second ∷ rest) h g)

good-stretches : (breaks : List ℕ) (pieces : List Piece) → list_all is_piece pieces ≡ true → All (IsGood breaks) (stretches breaks pieces)
good-stretches breaks [] e = All-nil (IsGood breaks)
good-stretches breaks (piece ∷ pieces) e =
    let parts = and_parts (is_piece piece) (list_all is_piece pieces) e in
    good-with_stretch breaks (stretch_of piece) (stretches breaks pieces)
    (record {
      text = IsText-phrase piece.phrase ((and_parts (is_phrase piece.phrase) _ parts.0).0);
      whole = λ s. single-whole piece.start breaks (piece.start + phrase_len piece.phrase) (ap (λ n. piece.start + n) (eqb-true (phrase_len piece.phrase) 1 s));
    })
    (good-stretches breaks pieces parts.1)

pub whole-stretches : (breaks : List ℕ) (pieces : List Piece) (stretch : Stretch) → list_all is_piece pieces ≡ true → Contains (stretches breaks pieces) stretch
    → stretch.is_single ≡ true → list_all (is_outside stretch.start (stretch.start + phrase_len stretch.phrase)) breaks ≡ true
whole-stretches breaks pieces stretch e i s = (All-contains (IsGood breaks) (stretches breaks pieces) stretch (good-stretches breaks pieces e) i).whole s

-- a release commits the front of what was shown
pub release-front : (system : List Row) (editor : Editor) (cell : Cell)
    → shown_text editor ≡ (releasing system editor cell).commit ++ encode_utf8_all (drop (leading_cells editor) (characters_of editor))
unfolding releasing text_at
release-front system editor cell =
    ap encode_utf8_all (sym (take-append-drop (leading_cells editor) (characters_of editor)))
    ∙ encodes-append (take (leading_cells editor) (characters_of editor)) (drop (leading_cells editor) (characters_of editor))

pub release-cells : (system : List Row) (editor : Editor) (cell : Cell)
    → (releasing system editor cell).editor.buffer ≡ inserted (released (leading_cells editor) editor.buffer) cell
unfolding releasing
release-cells system editor cell = refl

pub release-symbol : (system : List Row) (editor : Editor) (cell : Cell) → has_sound editor.buffer.cells 0 ≡ false → (releasing system editor cell).changes ≡ []
unfolding releasing leading_learns
release-symbol system editor cell e =
    cond-false (editor.settings.learn && has_sound editor.buffer.cells 0) (learn_shown system editor 0 (leading_cells editor) ∷ []) [] (and_right editor.settings.learn (has_sound editor.buffer.cells 0) e)

pub release-off : (system : List Row) (editor : Editor) (cell : Cell) → editor.settings.learn ≡ false → (releasing system editor cell).changes ≡ []
unfolding releasing leading_learns
release-off system editor cell e =
    cond-false (editor.settings.learn && has_sound editor.buffer.cells 0) (learn_shown system editor 0 (leading_cells editor) ∷ []) [] (and_left editor.settings.learn (has_sound editor.buffer.cells 0) e)

pub release-learns : (system : List Row) (editor : Editor) (cell : Cell) → editor.settings.learn ≡ true → has_sound editor.buffer.cells 0 ≡ true
    → map phrase_learnt (releasing system editor cell).changes ≡ (releasing system editor cell).commit ∷ []
unfolding releasing leading_learns learn_shown
release-learns system editor cell on e =
    ap (map phrase_learnt)
    (cond-true (editor.settings.learn && has_sound editor.buffer.cells 0) (learn_shown system editor 0 (leading_cells editor) ∷ []) [] (and_from editor.settings.learn (has_sound editor.buffer.cells 0) on e))

pub release-full : (system : List Row) (editor : Editor) (cell : Cell) → is_full editor.buffer ≡ true → insert system editor cell ≡ asking system (releasing system editor cell)
unfolding insert
release-full system editor cell e = cond-true (is_full editor.buffer) (asking system (releasing system editor cell)) (edit system editor (inserted editor.buffer cell)) e

pub no-release : (system : List Row) (editor : Editor) (cell : Cell) → is_full editor.buffer ≡ false → insert system editor cell ≡ edit system editor (inserted editor.buffer cell)
unfolding insert
no-release system editor cell e = cond-false (is_full editor.buffer) (asking system (releasing system editor cell)) (edit system editor (inserted editor.buffer cell)) e
