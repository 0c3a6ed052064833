-- Stretches that are learnt one after another.
use Rattle.std.specs.Prelude.{◌≡◌, ℕ, ◌+◌, ◌-◌, ◌<◌, ◌≤◌, true, false, List, [], ◌∷◌, ◌++◌, All, drop, take, encode_utf8_all, flat_map, get_or, length, map, ◌==◌}
use Rattle.std.specs.List.{list_all, range_with_len}
use Rattle.std.proofs.Common.{ap, ap₂, sym, subst, ◌∙◌, arith, append-nil, append_assoc, eqb-true}
use Rattle.std.proofs.lemmas.Bool.{and_parts, cond-false, cond-true}
use Rattle.std.proofs.lemmas.List.{drop-map, drop_all, drop_more, take-map, take_rest}
use Rattle.std.proofs.lemmas.List.Elements.{All-head, All-tail}
use Rattle.chew_spec_syllable.specs.Key.{is_key}
use Rattle.chew_spec_syllable.specs.Phrase.{is_phrase}
use Rattle.chew_spec_syllable.specs.Row.{Row, is_pair}
use Rattle.chew_spec_dictionary.specs.Call.{Call}
use Rattle.chew_spec_phrasing.specs.Usable.{Piece, phrase_len}
use Rattle.chew_spec_preedit.specs.Cell.{Cell, is_cell, is_sound}
use Rattle.chew_spec_preedit.specs.ShownText.{characters_of}
use Rattle.chew_spec_preedit.proofs.IsBuffer.{IsBuffer-from}
use Rattle.chew_spec_editor.specs.Editor.{Editor}
use Rattle.chew_spec_editor.specs.Invariant.{covers, is_editor, is_piece}
use Rattle.chew_spec_editor.specs.Learning.{code_in, key_at, learns}
use Rattle.chew_spec_editor.proofs.Characters.{HaveCharacters-at, cells-show, length-characters}
use Rattle.chew_spec_editor.proofs.Steady.{IsEditor-from}
use Rattle.chew_spec_editor.proofs.Texts.{AreSounds, is_pair-at}
use Rattle.chew_editor.specs.Spans.{IsSpan, Span, goes_on, learns_from, learns_in, longer, part_in, span_of, spans_from}
use Rattle.chew_editor.proofs.SpansShown.{learns-are, spans-fit}

-- a part of what a list becomes
pub mapped-part : {X Y : Type 0} (f : X → Y) (place len : ℕ) (xs : List X) → map f (take len (drop place xs)) ≡ take len (drop place (map f xs))
mapped-part f place len xs = sym (take-map f len (drop place xs)) ∙ ap (take len) (sym (drop-map f place xs))

-- the piece goes on with the span
spans-on : (breaks : List ℕ) (span : Span) (pieces : List Piece) (i : ℕ) (piece : Piece) → i < length pieces → piece ≡ get_or pieces i piece → goes_on breaks span piece ≡ true
    → spans_from breaks span (drop i pieces) ≡ spans_from breaks (longer span piece) (drop (i + 1) pieces)
unfolding spans_from
spans-on breaks span pieces i piece l e on =
    let rest = drop (i + 1) pieces in
    ap (spans_from breaks span) (drop_more pieces i piece l ∙ ap (λ p. p ∷ rest) (sym e))
    ∙ cond-true (goes_on breaks span piece) (spans_from breaks (longer span piece) rest) (span ∷ spans_from breaks (span_of piece) rest) on

-- or it begins one
spans-off : (breaks : List ℕ) (span : Span) (pieces : List Piece) (i : ℕ) (piece : Piece) → i < length pieces → piece ≡ get_or pieces i piece → goes_on breaks span piece ≡ false
    → spans_from breaks span (drop i pieces) ≡ span ∷ spans_from breaks (span_of piece) (drop (i + 1) pieces)
unfolding spans_from
spans-off breaks span pieces i piece l e off =
    let rest = drop (i + 1) pieces in
    ap (spans_from breaks span) (drop_more pieces i piece l ∙ ap (λ p. p ∷ rest) (sym e))
    ∙ cond-false (goes_on breaks span piece) (spans_from breaks (longer span piece) rest) (span ∷ spans_from breaks (span_of piece) rest) off

spans-end : (breaks : List ℕ) (span : Span) (pieces : List Piece) (i : ℕ) → length pieces ≤ i → spans_from breaks span (drop i pieces) ≡ span ∷ []
unfolding spans_from
spans-end breaks span pieces i l = ap (spans_from breaks span) (drop_all i pieces l)

-- what is learnt so far, and what is to come
pub record Learns (system : List Row) (breaks : List ℕ) (cells : List Cell) (shown : List ℕ) (had : List Call) (span : Span) (rest : List Piece) (whole : List Call) : Type 0 where
  pub same : had ++ learns_from system breaks cells shown span rest ≡ whole
  pub fit : All (IsSpan cells shown) (spans_from breaks span rest)

pub learns-on : (system : List Row) (breaks : List ℕ) (cells : List Cell) (shown : List ℕ) (had now whole : List Call) (span next : Span) (pieces : List Piece) (i : ℕ) (piece : Piece)
    → i < length pieces → piece ≡ get_or pieces i piece → goes_on breaks span piece ≡ true → next ≡ longer span piece → now ≡ had
    → Learns system breaks cells shown had span (drop i pieces) whole → Learns system breaks cells shown now next (drop (i + 1) pieces) whole
learns-on system breaks cells shown had now whole span next pieces i piece l e on is same h =
    let rest = drop (i + 1) pieces in
    let own = λ (s : Span). learns_in system (part_in s cells) (part_in s shown) in
    let step = spans-on breaks span pieces i piece l e on ∙ ap (λ s. spans_from breaks s rest) (sym is) in
    record {
      same = ap (λ (calls : List Call). calls ++ learns_from system breaks cells shown next rest) same ∙ (sym (ap (λ ss. had ++ flat_map own ss) step) ∙ h.same);
      fit = subst (All (IsSpan cells shown)) step h.fit;
    }

pub learns-off : (system : List Row) (breaks : List ℕ) (cells : List Cell) (shown : List ℕ) (had now whole : List Call) (span next : Span) (pieces : List Piece) (i : ℕ) (piece : Piece)
    → i < length pieces → piece ≡ get_or pieces i piece → goes_on breaks span piece ≡ false → next ≡ span_of piece
    → now ≡ had ++ learns_in system (part_in span cells) (part_in span shown)
    → Learns system breaks cells shown had span (drop i pieces) whole → Learns system breaks cells shown now next (drop (i + 1) pieces) whole
learns-off system breaks cells shown had now whole span next pieces i piece l e off is more h =
    let rest = drop (i + 1) pieces in
    let own = λ (s : Span). learns_in system (part_in s cells) (part_in s shown) in
    let step = spans-off breaks span pieces i piece l e off ∙ ap (λ s. span ∷ spans_from breaks s rest) (sym is) in
    record {
      same = ap (λ (calls : List Call). calls ++ learns_from system breaks cells shown next rest) more
          ∙ (append_assoc had (own span) (learns_from system breaks cells shown next rest)
          ∙ (sym (ap (λ ss. had ++ flat_map own ss) step) ∙ h.same));
      fit = All-tail (IsSpan cells shown) span (spans_from breaks next rest) (subst (All (IsSpan cells shown)) step h.fit);
    }

-- the span of an earlier piece is whole
pub span-off : (system : List Row) (breaks : List ℕ) (cells : List Cell) (shown : List ℕ) (had whole : List Call) (span : Span) (pieces : List Piece) (i : ℕ) (piece : Piece)
    → i < length pieces → piece ≡ get_or pieces i piece → goes_on breaks span piece ≡ false
    → Learns system breaks cells shown had span (drop i pieces) whole → IsSpan cells shown span
span-off system breaks cells shown had whole span pieces i piece l e off h =
    All-head (IsSpan cells shown) span (spans_from breaks (span_of piece) (drop (i + 1) pieces))
    (subst (All (IsSpan cells shown)) (spans-off breaks span pieces i piece l e off) h.fit)

-- and so is the last one
pub span-end : (system : List Row) (breaks : List ℕ) (cells : List Cell) (shown : List ℕ) (had whole : List Call) (span : Span) (pieces : List Piece) (i : ℕ) → length pieces ≤ i
    → Learns system breaks cells shown had span (drop i pieces) whole → IsSpan cells shown span
span-end system breaks cells shown had whole span pieces i l h =
    All-head (IsSpan cells shown) span [] (subst (All (IsSpan cells shown)) (spans-end breaks span pieces i l) h.fit)

pub learns-end : (system : List Row) (breaks : List ℕ) (cells : List Cell) (shown : List ℕ) (had now whole : List Call) (span : Span) (pieces : List Piece) (i : ℕ) → length pieces ≤ i
    → now ≡ had ++ learns_in system (part_in span cells) (part_in span shown)
    → Learns system breaks cells shown had span (drop i pieces) whole → now ≡ whole
learns-end system breaks cells shown had now whole span pieces i l more h =
    let own = λ (s : Span). learns_in system (part_in s cells) (part_in s shown) in
    more
    ∙ (ap (λ calls. had ++ calls) (sym (append-nil (own span)))
    ∙ (sym (ap (λ ss. had ++ flat_map own ss) (spans-end breaks span pieces i l)) ∙ h.same))

-- a character is shown for each cell of an editor
pub as-many-shown : (editor : Editor) → is_editor editor ≡ true → length (characters_of editor.pieces editor.buffer.cells) ≡ length editor.buffer.cells
unfolding characters_of
as-many-shown editor e =
    let h = IsEditor-from editor e in
    length-characters editor.pieces 0 editor.buffer.cells (cells-show editor.buffer.cells editor.pieces h.covered h.steady.pieces)

-- what syllables of an editor show is a phrase of them
pub pair-shown : (editor : Editor) (place len : ℕ) (cells : List Cell) (shown : List ℕ) → is_editor editor ≡ true → place + len ≤ length editor.buffer.cells
    → list_all is_sound (take len (drop place editor.buffer.cells)) ≡ true → 1 ≤ len → len ≤ 11
    → cells ≡ take len (drop place editor.buffer.cells) → shown ≡ take len (drop place (characters_of editor.pieces editor.buffer.cells))
    → is_pair (flat_map code_in cells) (encode_utf8_all shown) ≡ true
pair-shown editor place len cells shown e within sounds l m is is_shown =
    let h = IsEditor-from editor e in
    let all = editor.buffer.cells in
    let cs = take len (drop place (characters_of editor.pieces all)) in
    let are : AreSounds all place len = record { within = within; sounds = sounds } in
    let have = HaveCharacters-at all editor.pieces place len (cells-show all editor.pieces h.covered h.steady.pieces) are in
    let count = have.count in
    subst (λ ks. is_pair (flat_map code_in ks) (encode_utf8_all shown) ≡ true) (sym is)
    (subst (λ text. is_pair (key_at editor.buffer.cells place len) (encode_utf8_all text) ≡ true) (sym is_shown)
    (subst (λ (n : ℕ). is_pair (key_at editor.buffer.cells place n) (encode_utf8_all (take len (drop place (characters_of editor.pieces editor.buffer.cells)))) ≡ true) have.count
    (is_pair-at all place cs (IsBuffer-from editor.buffer h.steady.buffer).cells (subst (AreSounds all place) (sym have.count) are) have.characters (omega arith) (omega arith))))

-- a phrase of syllables has as many characters
pub long-pair : (key phrase : List ℕ) → is_pair key phrase ≡ true → phrase_len phrase ≡ length key
long-pair key phrase e =
    let both = and_parts (is_phrase phrase) (phrase_len phrase == length key) ((and_parts (is_key key) _ e).1) in
    eqb-true (phrase_len phrase) (length key) both.1

-- after the last part
pub parts-end : {X : Type 0} (f : ℕ → X) (had whole : List X) (i end : ℕ) → end ≤ i → had ++ map f (range_with_len i (end - i)) ≡ whole → had ≡ whole
parts-end f had whole i end l h =
    sym (append-nil had) ∙ (sym (ap (λ (n : ℕ). had ++ map f (range_with_len i n)) (let z : end - i ≡ 0 = omega arith in z)) ∙ h)

-- a list of a first element and the others
others-of : {X : Type 0} (first : X) (xs : List X) → 1 ≤ length xs → first ≡ get_or xs 0 first → first ∷ take (length xs - 1) (drop 1 xs) ≡ xs
others-of first [] l e = absurd (omega arith)
others-of first (x ∷ xs) l e = ap₂ (λ y ys. y ∷ ys) e (take_rest (x ∷ xs) 1)

-- the spans of all pieces
pub fit-all : (cells mapped : List Cell) (breaks : List ℕ) (pieces : List Piece) (first : Piece) (span : Span) (shown : List ℕ) → mapped ≡ cells
    → shown ≡ characters_of pieces mapped → span ≡ span_of first → list_all is_cell cells ≡ true → covers cells pieces ≡ true → list_all is_piece pieces ≡ true
    → 1 ≤ length pieces → first ≡ get_or pieces 0 first
    → All (IsSpan mapped shown) (spans_from breaks span (take (length pieces - 1) (drop 1 pieces)))
fit-all cells mapped breaks pieces first span shown same is_shown is e c p l d =
    let others = take (length pieces - 1) (drop 1 pieces) in
    let all = others-of first pieces l d in
    subst (λ s. All (IsSpan mapped shown) (spans_from breaks s others)) (sym is)
    (subst (λ text. All (IsSpan mapped text) (spans_from breaks (span_of first) others)) (sym (is_shown ∙ ap (λ ps. characters_of ps mapped) (sym all)))
    (subst (λ cs. All (IsSpan cs (characters_of (first ∷ others) cs)) (spans_from breaks (span_of first) others)) (sym same)
    (spans-fit cells breaks first others e (ap (covers cells) all ∙ c) (ap (list_all is_piece) all ∙ p))))

-- and what is learnt of them
pub learns-all : (system : List Row) (cells mapped : List Cell) (breaks own_breaks : List ℕ) (pieces : List Piece) (first : Piece) (span : Span) (shown : List ℕ) (had now : List Call)
    → mapped ≡ cells → own_breaks ≡ breaks → shown ≡ characters_of pieces mapped → span ≡ span_of first → covers cells pieces ≡ true → list_all is_piece pieces ≡ true
    → 1 ≤ length pieces → first ≡ get_or pieces 0 first → had ≡ []
    → now ≡ had ++ learns_from system own_breaks mapped shown span (take (length pieces - 1) (drop 1 pieces)) → now ≡ learns system cells breaks pieces
learns-all system cells mapped breaks own_breaks pieces first span shown had now same same_breaks is_shown is c p l d none more =
    let others = take (length pieces - 1) (drop 1 pieces) in
    let all = others-of first pieces l d in
    more
    ∙ (ap (λ (calls : List Call). calls ++ learns_from system own_breaks mapped shown span others) none
    ∙ (ap (λ bs. learns_from system bs mapped shown span others) same_breaks
    ∙ (ap (λ s. learns_from system breaks mapped shown s others) is
    ∙ (ap (λ text. learns_from system breaks mapped text (span_of first) others) (is_shown ∙ ap (λ ps. characters_of ps mapped) (sym all))
    ∙ (ap (λ cs. learns_from system breaks cs (characters_of (first ∷ others) cs) (span_of first) others) same
    ∙ (learns-are system cells breaks first others (ap (covers cells) all ∙ c) (ap (list_all is_piece) all ∙ p)
    ∙ ap (learns system cells breaks) all))))))

-- nothing is learnt of no pieces
pub learns-none : (system : List Row) (cells : List Cell) (breaks : List ℕ) (pieces : List Piece) (had : List Call) → length pieces ≤ 0 → had ≡ [] → had ≡ learns system cells breaks pieces
unfolding learns
learns-none system cells breaks [] had l e = e
learns-none system cells breaks (piece ∷ pieces) had l e = absurd (omega arith)
