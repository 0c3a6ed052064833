-- The first field of a text.
use Rattle.std.proofs.Common.{◌≡◌, ℕ, suc, ◌+◌, ◌<◌, ◌≤◌, Bool, true, false, cond, not, List, [], ◌∷◌, length, take, drop, filter, position, Some, None, refl, ap, sym, subst, ◌∙◌, length-take, length-drop, arith}
use Rattle.std.specs.List.{slice_split, onto_first, position_or_len}
use Rattle.std.proofs.lemmas.Bool.{cond-true, lt-ltb, ltb-true, ltb-false}
use Rattle.std.proofs.lemmas.List.{drop_all}
use Rattle.std.proofs.lemmas.List.Splits.{slice_split-cons_yes, slice_split_first}
use Rattle.std.proofs.lemmas.Option.{cond_some, none-some}
use Rattle.chew_spec_text.specs.DictionaryText.{is_separator, is_field, fields_in}

-- a byte of a field
abbrev pub is_inside : ℕ → Bool
is_inside byte = not (is_separator byte)

-- a place that was found
found_at : (p : ℕ → Bool) (text : List ℕ) (place : ℕ) → position p text ≡ Some place → (position_or_len p text < length text) × (position_or_len p text ≡ place)
found_at p text place e = let found = cond_some _ _ place e in (ltb-true _ _ found.0, found.1)

-- none was found
chose_none : (b : Bool) (x : ℕ) → cond b (Some x) None ≡ None → b ≡ false
chose_none true x e = absurd (none-some x (sym e))
chose_none false x e = refl

not_found : (p : ℕ → Bool) (text : List ℕ) → position p text ≡ None → length text ≤ position_or_len p text
not_found p text e = ltb-false _ _ (chose_none _ _ e)

-- what stands before the first field is no part of one
skipped : (text : List ℕ) → fields_in text ≡ fields_in (drop (position_or_len is_inside text) text)
skipped [] = refl
skipped (byte ∷ text) = by (is_separator byte) refl (skipped text)
  where
    by : (b : Bool) → is_separator byte ≡ b → fields_in text ≡ fields_in (drop (position_or_len is_inside text) text) → fields_in (byte ∷ text) ≡ fields_in (drop (cond (not (not b)) (1 + position_or_len is_inside text) 0) (byte ∷ text))
    by false e later = refl
    by true e later =
        let next : suc (position_or_len is_inside text) ≡ 1 + position_or_len is_inside text = omega arith in
        ap (filter is_field) (slice_split-cons_yes is_separator byte text e) ∙ (later ∙ ap (λ (n : ℕ). fields_in (drop n (byte ∷ text))) next)

-- the first field is not empty
begins : (text : List ℕ) → position_or_len is_inside text < length text → 0 < position_or_len is_separator (drop (position_or_len is_inside text) text)
begins [] h = absurd (omega arith)
begins (byte ∷ text) h = by (is_separator byte) refl h (begins text)
  where
    front : is_separator byte ≡ false → 0 < position_or_len is_separator (byte ∷ text)
    front e = subst (λ (b : Bool). 0 < cond (not b) (1 + position_or_len is_separator text) 0) (sym e) (omega arith)

    by : (b : Bool) → is_separator byte ≡ b → cond (not (not b)) (1 + position_or_len is_inside text) 0 < suc (length text)
        → (position_or_len is_inside text < length text → 0 < position_or_len is_separator (drop (position_or_len is_inside text) text)) → 0 < position_or_len is_separator (drop (cond (not (not b)) (1 + position_or_len is_inside text) 0) (byte ∷ text))
    by false e h later = front e
    by true e h later =
        let next : suc (position_or_len is_inside text) ≡ 1 + position_or_len is_inside text = omega arith in
        subst (λ (n : ℕ). 0 < position_or_len is_separator (drop n (byte ∷ text))) next (later (omega arith))

-- the text from its first field on
from_field : (text : List ℕ) (start : ℕ) → position is_inside text ≡ Some start → (fields_in text ≡ fields_in (drop start text)) × (0 < position_or_len is_separator (drop start text))
from_field text start e =
    let found = found_at is_inside text start e in (
      subst (λ (n : ℕ). fields_in text ≡ fields_in (drop n text)) found.1 (skipped text),
      subst (λ (n : ℕ). 0 < position_or_len is_separator (drop n text)) found.1 (begins text found.0),
    )

-- a part that isn't empty is a field
kept : (part : List ℕ) (parts : List (List ℕ)) → 0 < length part → filter is_field (part ∷ parts) ≡ part ∷ filter is_field parts
kept part parts h = cond-true (is_field part) (part ∷ filter is_field parts) (filter is_field parts) (lt-ltb 0 (length part) h)

-- the first field ends at this place
cut : (text : List ℕ) (place : ℕ) → position is_separator text ≡ Some place → 0 < position_or_len is_separator text → fields_in text ≡ take place text ∷ fields_in (drop (place + 1) text)
cut text place e some =
    let found = found_at is_separator text place e in
    let size : 0 < length (take place text) = omega (arith, length-take place text) in
    ap (filter is_field) (subst (λ (n : ℕ). slice_split is_separator text ≡ take n text ∷ slice_split is_separator (drop (n + 1) text)) found.1 (slice_split_first is_separator text 0 found.0))
    ∙ kept (take place text) (slice_split is_separator (drop (place + 1) text)) size

-- where no byte parts, the text is one part
uncut : (p : ℕ → Bool) (text : List ℕ) → length text ≤ position_or_len p text → slice_split p text ≡ text ∷ []
uncut p [] h = refl
uncut p (byte ∷ text) h = by (p byte) h (uncut p text)
  where
    by : (b : Bool) → length (byte ∷ text) ≤ cond (not b) (1 + position_or_len p text) 0 → (length text ≤ position_or_len p text → slice_split p text ≡ text ∷ []) → cond b ([] ∷ slice_split p text) (onto_first byte (slice_split p text)) ≡ (byte ∷ text) ∷ []
    by true h rest = absurd (omega arith)
    by false h rest = ap (onto_first byte) (rest (omega arith))

-- the text has no field
pub no_field : (text : List ℕ) → position is_inside text ≡ None → fields_in text ≡ []
no_field text e = skipped text ∙ ap fields_in (drop_all (position_or_len is_inside text) text (not_found is_inside text e))

-- another byte parts the first field from what follows
pub field_and_more : (text : List ℕ) (start place : ℕ) → position is_inside text ≡ Some start → position is_separator (drop start text) ≡ Some place → fields_in text ≡ take place (drop start text) ∷ fields_in (drop (place + 1) (drop start text))
field_and_more text start place e h = let from = from_field text start e in from.0 ∙ cut (drop start text) place h from.1

-- the first field is the last
pub last_field : (text : List ℕ) (start : ℕ) → position is_inside text ≡ Some start → position is_separator (drop start text) ≡ None → fields_in text ≡ drop start text ∷ fields_in []
last_field text start e h =
    let from = from_field text start e in
    let whole = not_found is_separator (drop start text) h in
    let found = found_at is_inside text start e in
    let size : 0 < length (drop start text) = omega (arith, length-drop start text) in
    from.0 ∙ (ap (filter is_field) (uncut is_separator (drop start text) whole) ∙ kept (drop start text) [] size)
