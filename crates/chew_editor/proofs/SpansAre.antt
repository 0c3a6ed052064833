-- The spans of the pieces are the stretches that are learnt.
use Rattle.std.specs.Prelude.{◌≡◌, ℕ, ◌+◌, Bool, true, false, not, cond, ◌&&◌, List, [], ◌∷◌, ◌++◌, chars, map, length, ◌==◌}
use Rattle.std.specs.List.{list_all}
use Rattle.std.proofs.Common.{refl, ap, sym, ◌∙◌, arith, append_assoc, eqb-true, length-append}
use Rattle.std.proofs.lemmas.Bool.{and_parts, cond-false, cond-true, cond_both}
use Rattle.chew_spec_syllable.specs.Phrase.{is_phrase}
use Rattle.chew_spec_phrasing.specs.Usable.{Piece, phrase_len}
use Rattle.chew_spec_preedit.specs.Edit.{has_break}
use Rattle.chew_spec_editor.specs.Invariant.{is_piece}
use Rattle.chew_spec_editor.specs.Learning.{Stretch, go_together, stretch_of, stretches, with_stretch}
use Rattle.chew_spec_editor.proofs.Texts.{IsText, IsText-append, IsText-phrase}
use Rattle.chew_editor.specs.Spans.{Span, longer, span_of, spans_from}

-- the first stretch with the second behind it
abbrev join : Stretch → Stretch → Stretch
join first second = record { start = first.start; phrase = first.phrase ++ second.phrase; is_single = true }

long-joined : (first second : Stretch) → IsText first.phrase → IsText second.phrase → phrase_len (first.phrase ++ second.phrase) ≡ phrase_len first.phrase + phrase_len second.phrase
long-joined first second h g =
    ap length (IsText-append first.phrase second.phrase h g).0 ∙ length-append (chars first.phrase) (chars second.phrase)

-- where the first two go together, what goes with the second goes with both
with_both : (breaks : List ℕ) (first second third : Stretch) → IsText first.phrase → IsText second.phrase → go_together breaks first second ≡ true
    → go_together breaks (join first second) third ≡ go_together breaks second third
with_both breaks first second third h g e =
    let one = and_parts first.is_single _ e in
    let two = and_parts second.is_single _ one.1 in
    let starts = eqb-true second.start (first.start + phrase_len first.phrase) ((and_parts (second.start == first.start + phrase_len first.phrase) _ two.1).0) in
    let long = long-joined first second h g in
    let ends : first.start + phrase_len (first.phrase ++ second.phrase) ≡ second.start + phrase_len second.phrase = omega arith in
    ap (λ (end : ℕ). true && (third.is_single && ((third.start == end) && not (has_break breaks third.start)))) ends
    ∙ ap (λ (b : Bool). b && (third.is_single && ((third.start == second.start + phrase_len second.phrase) && not (has_break breaks third.start)))) (sym two.0)

-- where the last two go together, the first goes with both as it goes with the second
with_first : (breaks : List ℕ) (first second third : Stretch) → go_together breaks second third ≡ true → go_together breaks first (join second third) ≡ go_together breaks first second
with_first breaks first second third e =
    ap (λ (b : Bool). first.is_single && (b && ((second.start == first.start + phrase_len first.phrase) && not (has_break breaks second.start))))
    (sym (and_parts second.is_single _ e).0)

-- a stretch before another, which joins those behind it first, or last
twice : (breaks : List ℕ) (first second : Stretch) (rest : List Stretch) → IsText first.phrase → IsText second.phrase
    → with_stretch breaks first (with_stretch breaks second rest)
    ≡ cond (go_together breaks first second) (with_stretch breaks (join first second) rest) (first ∷ with_stretch breaks second rest)
twice breaks first second [] h g = refl
twice breaks first second (third ∷ rest) h g =
    by_last (go_together breaks second third) refl
  where
    by_first : (b : Bool) → go_together breaks first second ≡ b → go_together breaks second third ≡ true
        → cond b (record { start = first.start; phrase = first.phrase ++ (second.phrase ++ third.phrase); is_single = true } ∷ rest)
        (first ∷ (record { start = second.start; phrase = second.phrase ++ third.phrase; is_single = true } ∷ rest))
        ≡ cond b (with_stretch breaks (record { start = first.start; phrase = first.phrase ++ second.phrase; is_single = true }) (third ∷ rest)) (first ∷ with_stretch breaks second (third ∷ rest))
    by_first true f e =
        sym (ap (λ b. cond b (join (join first second) third ∷ rest) (join first second ∷ (third ∷ rest))) (with_both breaks first second third h g f ∙ e)
        ∙ ap (λ text. let s : Stretch = record { start = first.start; phrase = text; is_single = true } in s ∷ rest) (append_assoc first.phrase second.phrase third.phrase))
    by_first false f e = ap (λ b. first ∷ cond b (join second third ∷ rest) (second ∷ (third ∷ rest))) (sym e)

    by_apart : (b : Bool) → go_together breaks first second ≡ b → go_together breaks second third ≡ false
        → cond b (record { start = first.start; phrase = first.phrase ++ second.phrase; is_single = true } ∷ (third ∷ rest)) (first ∷ (second ∷ (third ∷ rest)))
        ≡ cond b (with_stretch breaks (record { start = first.start; phrase = first.phrase ++ second.phrase; is_single = true }) (third ∷ rest)) (first ∷ with_stretch breaks second (third ∷ rest))
    by_apart true f e = sym (ap (λ b. cond b (join (join first second) third ∷ rest) (join first second ∷ (third ∷ rest))) (with_both breaks first second third h g f ∙ e))
    by_apart false f e = ap (λ b. first ∷ cond b (join second third ∷ rest) (second ∷ (third ∷ rest))) (sym e)

    by_last : (b : Bool) → go_together breaks second third ≡ b
        → with_stretch breaks first (with_stretch breaks second (third ∷ rest))
        ≡ cond (go_together breaks first second) (with_stretch breaks (record { start = first.start; phrase = first.phrase ++ second.phrase; is_single = true }) (third ∷ rest)) (first ∷ with_stretch breaks second (third ∷ rest))
    by_last true e =
        ap (λ b. with_stretch breaks first (cond b (join second third ∷ rest) (second ∷ (third ∷ rest)))) e
        ∙ (ap (λ b. cond b (join first (join second third) ∷ rest) (first ∷ (join second third ∷ rest))) (with_first breaks first second third e)
        ∙ by_first (go_together breaks first second) refl e)
    by_last false e =
        ap (λ b. with_stretch breaks first (cond b (join second third ∷ rest) (second ∷ (third ∷ rest)))) e
        ∙ by_apart (go_together breaks first second) refl e

-- a stretch by its places alone
abbrev pub places_of : Stretch → Span
places_of stretch = record { start = stretch.start; end = stretch.start + phrase_len stretch.phrase; is_single = stretch.is_single }

pub text-of_piece : (piece : Piece) → is_piece piece ≡ true → IsText piece.phrase
text-of_piece piece e = IsText-phrase piece.phrase ((and_parts (is_phrase piece.phrase) _ e).0)

longer-joined : (breaks : List ℕ) (first : Stretch) (piece : Piece) → IsText first.phrase → IsText piece.phrase → go_together breaks first (stretch_of piece) ≡ true
    → places_of (join first (stretch_of piece)) ≡ longer (places_of first) piece
longer-joined breaks first piece h g e =
    let one = and_parts first.is_single _ e in
    let two = and_parts (phrase_len piece.phrase == 1) _ one.1 in
    let starts = eqb-true piece.start (first.start + phrase_len first.phrase) ((and_parts (piece.start == first.start + phrase_len first.phrase) _ two.1).0) in
    let long = long-joined first (stretch_of piece) h g in
    ap (λ (end : ℕ). let s : Span = record { start = first.start; end = end; is_single = true } in s)
    (let f : first.start + phrase_len (first.phrase ++ piece.phrase) ≡ piece.start + phrase_len piece.phrase = omega arith in f)

pub spans-are : (breaks : List ℕ) (first : Stretch) (pieces : List Piece) → IsText first.phrase → list_all is_piece pieces ≡ true
    → map places_of (with_stretch breaks first (stretches breaks pieces)) ≡ spans_from breaks (places_of first) pieces
unfolding spans_from
spans-are breaks first [] h e = refl
spans-are breaks first (piece ∷ pieces) h e =
    let parts = and_parts (is_piece piece) (list_all is_piece pieces) e in
    let text = text-of_piece piece parts.0 in
    ap (map places_of) (twice breaks first (stretch_of piece) (stretches breaks pieces) h text)
    ∙ cond_both (go_together breaks first (stretch_of piece)) (with_stretch breaks (join first (stretch_of piece)) (stretches breaks pieces)) (first ∷ with_stretch breaks (stretch_of piece) (stretches breaks pieces))
    (λ ss. map places_of ss ≡ spans_from breaks (places_of first) (piece ∷ pieces))
    (λ f.
    spans-are breaks (join first (stretch_of piece)) pieces (IsText-append first.phrase piece.phrase h text).1 parts.1
    ∙ (ap (λ s. spans_from breaks s pieces) (longer-joined breaks first piece h text f)
    ∙ sym (cond-true (go_together breaks first (stretch_of piece)) (spans_from breaks (longer (places_of first) piece) pieces) (places_of first ∷ spans_from breaks (span_of piece) pieces) f)))
    (λ f.
    ap (λ ss. places_of first ∷ ss) (spans-are breaks (stretch_of piece) pieces text parts.1)
    ∙ sym (cond-false (go_together breaks first (stretch_of piece)) (spans_from breaks (longer (places_of first) piece) pieces) (places_of first ∷ spans_from breaks (span_of piece) pieces) f))
