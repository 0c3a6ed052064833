-- A break that is set and cleared, or cleared and set, leaves the breaks as they were.
use Rattle.std.specs.Prelude.{◌≡◌, ℕ, ◌<◌, Bool, true, false, not, ◌⊎◌, List, [], ◌∷◌, ◌++◌, filter, ◌==◌, nat_lt, None, if◌then◌else◌}
use Rattle.std.specs.List.{list_all}
use Rattle.std.proofs.Common.{refl, ap, ap₂, sym, subst, ◌∙◌, arith, eqb-true, inl, inr, ⊎_elim}
use Rattle.std.proofs.lemmas.Bool.{and_parts, both_ways, cases_order, cond-false, cond-true, eq-eqb, eqb-false, false≢true, le-ltb, lt-ltb, ltb-false, ltb-true, ne_eqb, not-true, not_from_false, not_from_true, or_cases, or_from, or_left, or_parts, or_right}
use Rattle.std.proofs.lemmas.List.Elements.{filter-append}
use Rattle.chew_spec_syllable.specs.Row.{Row}
use Rattle.chew_spec_layout.specs.Layout.{holds}
use Rattle.chew_spec_preedit.specs.Buffer.{Buffer, is_buffer, is_rising}
use Rattle.chew_spec_preedit.specs.Edit.{break_toggled, breaks_before, breaks_behind, broken, can_break, has_break, mended}
use Rattle.chew_spec_preedit.proofs.IsBuffer.{IsBuffer-from}
use Rattle.chew_spec_preedit.proofs.Kept.{list_all-filter, list_all-true, list_all-weaker}
use Rattle.chew_spec_preedit.proofs.Parts.{filter-all, filter-none}
use Rattle.chew_spec_text.specs.KeyStroke.{Tab}
use Rattle.chew_spec_editor.specs.Editor.{Editor}
use Rattle.chew_spec_editor.specs.Keys.{press, press_free, press_plain}
use Rattle.chew_spec_editor.specs.Press.{bell, edit, press_tab}
use Rattle.chew_spec_editor.proofs.Moves.{press-free, press-plain}

-- another place than the cursor
abbrev is_other : ℕ → ℕ → Bool
is_other cursor at = not (at == cursor)

-- rising breaks behind a place
behind-all : (cursor at : ℕ) (breaks : List ℕ) → cursor < at → list_all (nat_lt at) breaks ≡ true → list_all (nat_lt cursor) breaks ≡ true
behind-all cursor at breaks l e = list_all-weaker (nat_lt at) (nat_lt cursor) (λ k m. lt-ltb cursor k (let n = ltb-true at k m in omega arith)) breaks e

none-before : (cursor : ℕ) (breaks : List ℕ) → list_all (nat_lt cursor) breaks ≡ true → breaks_before cursor breaks ≡ []
none-before cursor breaks e = filter-none (nat_lt cursor) (λ at. nat_lt at cursor) (λ at l. le-ltb at cursor (let m = ltb-true cursor at l in omega arith)) breaks e

all-behind : (cursor : ℕ) (breaks : List ℕ) → list_all (nat_lt cursor) breaks ≡ true → breaks_behind cursor breaks ≡ breaks
all-behind cursor breaks e = filter-all (nat_lt cursor) (nat_lt cursor) (λ at l. l) breaks e

all-other : (cursor : ℕ) (breaks : List ℕ) → list_all (nat_lt cursor) breaks ≡ true → filter (is_other cursor) breaks ≡ breaks
all-other cursor breaks e =
    filter-all (nat_lt cursor) (is_other cursor) (λ at l. not_from_false (at == cursor) (ne_eqb at cursor (λ same. let m = ltb-true cursor at l in omega arith))) breaks e

-- breaks without one at the cursor are those before it and those behind it
apart-breaks : (cursor : ℕ) (breaks : List ℕ) → is_rising breaks ≡ true → has_break breaks cursor ≡ false → breaks_before cursor breaks ++ breaks_behind cursor breaks ≡ breaks
apart-breaks cursor [] r e = refl
apart-breaks cursor (at ∷ breaks) r e =
    let rising = and_parts (list_all (nat_lt at) breaks) (is_rising breaks) r in
    let apart = or_parts (at == cursor) (has_break breaks cursor) e in
    let other = eqb-false at cursor apart.0 in
    by_side (nat_lt at cursor) refl rising.0 other (apart-breaks cursor breaks rising.1 apart.1)
  where
    by_side : (b : Bool) → nat_lt at cursor ≡ b → list_all (nat_lt at) breaks ≡ true → (at ≡ cursor → ⊥) → breaks_before cursor breaks ++ breaks_behind cursor breaks ≡ breaks
        → breaks_before cursor (at ∷ breaks) ++ breaks_behind cursor (at ∷ breaks) ≡ at ∷ breaks
    by_side true f all other rest =
        let l = ltb-true at cursor f in
        ap₂ (λ xs ys. xs ++ ys)
        (cond-true (nat_lt at cursor) (at ∷ breaks_before cursor breaks) (breaks_before cursor breaks) f)
        (cond-false (nat_lt cursor at) (at ∷ breaks_behind cursor breaks) (breaks_behind cursor breaks) (le-ltb cursor at (omega arith)))
        ∙ ap (λ xs. at ∷ xs) rest
    by_side false f all other rest =
        let l = ltb-false at cursor f in
        let behind = behind-all cursor at breaks (omega arith) all in
        ap₂ (λ xs ys. xs ++ ys)
        (cond-false (nat_lt at cursor) (at ∷ breaks_before cursor breaks) (breaks_before cursor breaks) f ∙ none-before cursor breaks behind)
        (cond-true (nat_lt cursor at) (at ∷ breaks_behind cursor breaks) (breaks_behind cursor breaks) (lt-ltb cursor at (omega arith)))
        ∙ ap (λ xs. at ∷ xs) (all-behind cursor breaks behind)

-- a break that isn't the first one is a later one
later-break : (at cursor : ℕ) (breaks : List ℕ) → (at ≡ cursor → ⊥) → has_break (at ∷ breaks) cursor ≡ true → has_break breaks cursor ≡ true
later-break at cursor breaks h e =
    ⊎_elim (λ here. absurd (h (eqb-true at cursor here))) (λ later. later) (or_cases (at == cursor) (has_break breaks cursor) e)

-- there is none where all stand behind
no-break : (cursor : ℕ) (breaks : List ℕ) → list_all (nat_lt cursor) breaks ≡ true → has_break breaks cursor ≡ false
no-break cursor [] e = refl
no-break cursor (at ∷ breaks) e =
    let parts = and_parts (nat_lt cursor at) (list_all (nat_lt cursor) breaks) e in
    let l = ltb-true cursor at parts.0 in
    or_from (at == cursor) (has_break breaks cursor) (ne_eqb at cursor (λ same. omega arith)) (no-break cursor breaks parts.1)

-- nor where none is left
no-other : (cursor : ℕ) (breaks : List ℕ) → list_all (is_other cursor) breaks ≡ true → has_break breaks cursor ≡ false
no-other cursor [] e = refl
no-other cursor (at ∷ breaks) e =
    let parts = and_parts (is_other cursor at) (list_all (is_other cursor) breaks) e in
    or_from (at == cursor) (has_break breaks cursor) (not-true (at == cursor) parts.0) (no-other cursor breaks parts.1)

-- with one at the cursor, they are those before it, it, and those behind it
with-break : (cursor : ℕ) (breaks : List ℕ) → is_rising breaks ≡ true → has_break breaks cursor ≡ true
    → breaks_before cursor (filter (is_other cursor) breaks) ++ (cursor ∷ breaks_behind cursor (filter (is_other cursor) breaks)) ≡ breaks
with-break cursor [] r e = absurd (false≢true e)
with-break cursor (at ∷ breaks) r e =
    let rising = and_parts (list_all (nat_lt at) breaks) (is_rising breaks) r in
    by_order rising.0 (λ h. later-break at cursor breaks h e) (with-break cursor breaks rising.1) (cases_order at cursor)
  where
    by_order : list_all (nat_lt at) breaks ≡ true → ((at ≡ cursor → ⊥) → has_break breaks cursor ≡ true)
        → (has_break breaks cursor ≡ true → breaks_before cursor (filter (is_other cursor) breaks) ++ (cursor ∷ breaks_behind cursor (filter (is_other cursor) breaks)) ≡ breaks)
        → ((at ≡ cursor) ⊎ ((at < cursor) ⊎ (cursor < at)))
        → breaks_before cursor (filter (is_other cursor) (at ∷ breaks)) ++ (cursor ∷ breaks_behind cursor (filter (is_other cursor) (at ∷ breaks))) ≡ at ∷ breaks
    by_order all later rest (inl same) =
        let behind = subst (λ (k : ℕ). list_all (nat_lt k) breaks ≡ true) same all in
        let gone : filter (is_other cursor) (at ∷ breaks) ≡ breaks =
        cond-false (is_other cursor at) (at ∷ filter (is_other cursor) breaks) (filter (is_other cursor) breaks) (not_from_true (at == cursor) (eq-eqb at cursor same)) ∙ all-other cursor breaks behind in
        ap (λ kept. breaks_before cursor kept ++ (cursor ∷ breaks_behind cursor kept)) gone
        ∙ (ap₂ (λ xs ys. xs ++ (cursor ∷ ys)) (none-before cursor breaks behind) (all-behind cursor breaks behind) ∙ ap (λ k. k ∷ breaks) (sym same))
    by_order all later rest (inr (inl left)) =
        let there : has_break breaks cursor ≡ true = later (λ same. let l : at < cursor = left in omega arith) in
        let kept : filter (is_other cursor) (at ∷ breaks) ≡ at ∷ filter (is_other cursor) breaks =
        cond-true (is_other cursor at) (at ∷ filter (is_other cursor) breaks) (filter (is_other cursor) breaks)
        (not_from_false (at == cursor) (ne_eqb at cursor (λ same. let l : at < cursor = left in omega arith))) in
        let others = filter (is_other cursor) breaks in
        ap (λ kept. breaks_before cursor kept ++ (cursor ∷ breaks_behind cursor kept)) kept
        ∙ (ap₂ (λ xs ys. xs ++ (cursor ∷ ys))
        (cond-true (nat_lt at cursor) (at ∷ breaks_before cursor others) (breaks_before cursor others) (lt-ltb at cursor left))
        (cond-false (nat_lt cursor at) (at ∷ breaks_behind cursor others) (breaks_behind cursor others) (le-ltb cursor at (let l : at < cursor = left in omega arith)))
        ∙ ap (λ xs. at ∷ xs) (rest there))
    by_order all later rest (inr (inr right)) =
        let there : has_break breaks cursor ≡ true = later (λ same. let l : cursor < at = right in omega arith) in
        absurd (both_ways (has_break breaks cursor) (no-break cursor breaks (behind-all cursor at breaks right all)) there)

-- set and cleared
cleared-again : (breaks : List ℕ) (cursor : ℕ) → is_rising breaks ≡ true → has_break breaks cursor ≡ false
    → filter (is_other cursor) (breaks_before cursor breaks ++ (cursor ∷ breaks_behind cursor breaks)) ≡ breaks
cleared-again breaks cursor r e =
    let before = breaks_before cursor breaks in
    let behind = breaks_behind cursor breaks in
    filter-append (is_other cursor) before (cursor ∷ behind)
    ∙ (ap₂ (λ xs ys. xs ++ ys)
    (filter-all (λ at. nat_lt at cursor) (is_other cursor) (λ at l. not_from_false (at == cursor) (ne_eqb at cursor (λ same. let m = ltb-true at cursor l in omega arith))) before
    (list_all-filter (λ at. true) (λ at. nat_lt at cursor) (λ at. nat_lt at cursor) (λ at _ l. l) breaks (list_all-true breaks)))
    (cond-false (is_other cursor cursor) (cursor ∷ filter (is_other cursor) behind) (filter (is_other cursor) behind) (not_from_true (cursor == cursor) (eq-eqb cursor cursor refl))
    ∙ all-other cursor behind (list_all-filter (λ at. true) (nat_lt cursor) (nat_lt cursor) (λ at _ l. l) breaks (list_all-true breaks)))
    ∙ apart-breaks cursor breaks r e)

set-there : (cursor : ℕ) (before behind : List ℕ) → has_break (before ++ (cursor ∷ behind)) cursor ≡ true
set-there cursor [] behind = or_left (cursor == cursor) (has_break behind cursor) (eq-eqb cursor cursor refl)
set-there cursor (at ∷ before) behind = or_right (at == cursor) (has_break (before ++ (cursor ∷ behind)) cursor) (set-there cursor before behind)

pub tab-twice : (buffer : Buffer) → is_buffer buffer ≡ true → (break_toggled (break_toggled buffer)).breaks ≡ buffer.breaks
unfolding break_toggled
tab-twice buffer e = by_break (has_break buffer.breaks buffer.cursor) refl ((IsBuffer-from buffer e).rising)
  where
    by_break : (b : Bool) → has_break buffer.breaks buffer.cursor ≡ b → is_rising buffer.breaks ≡ true
        → (let once = if b then mended buffer else broken buffer in if has_break once.breaks once.cursor then mended once else broken once).breaks ≡ buffer.breaks
    by_break true f r =
        let once = mended buffer in
        let none = no-other buffer.cursor once.breaks (list_all-filter (λ at. true) (is_other buffer.cursor) (is_other buffer.cursor) (λ at _ o. o) buffer.breaks (list_all-true buffer.breaks)) in
        ap (λ (b : Buffer). b.breaks) (cond-false (has_break once.breaks buffer.cursor) (mended once) (broken once) none) ∙ with-break buffer.cursor buffer.breaks r f
    by_break false f r =
        let once = broken buffer in
        let there = set-there buffer.cursor (breaks_before buffer.cursor buffer.breaks) (breaks_behind buffer.cursor buffer.breaks) in
        ap (λ (b : Buffer). b.breaks) (cond-true (has_break once.breaks buffer.cursor) (mended once) (broken once) there) ∙ cleared-again buffer.breaks buffer.cursor r f

pub press-tab_key : (system : List Row) (editor : Editor) → editor.window ≡ None → holds editor.layout ≡ false → can_break editor.buffer ≡ true
    → press system editor Tab ≡ edit system editor (break_toggled editor.buffer)
unfolding press_plain press_free press_tab
press-tab_key system editor w h c =
    press-plain system editor Tab w
    ∙ (press-free system editor (press_tab system editor) h ∙ cond-true (can_break editor.buffer) (edit system editor (break_toggled editor.buffer)) (bell editor) c)
