-- A key that stands in no column isn't the layout's.
use Rattle.std.proofs.Common.{◌≡◌, ℕ, suc, ◌||◌, false, List, [], ◌∷◌, ◌++◌, length, eqb, refl, sym, ◌∙◌, arith}
use Rattle.std.specs.Prelude.{◌==◌}
use Rattle.std.proofs.lemmas.Bool.{or_parts, or_from, cond-false, cond_both, ne_eqb}
use Rattle.std.proofs.lemmas.List.Folds.{list_any-append}
use Rattle.chew_spec_syllable.specs.Syllable.{Parts}
use Rattle.chew_spec_layout.specs.Keys.{all_keys}
use Rattle.chew_spec_layout.specs.Letters.{is_letter, fed_letters}
use Rattle.chew_spec_layout.specs.Pinyin.{SpellingFed, is_pinyin_letter, is_tone_key, fed_spelling}
use Rattle.chew_spec_layout.specs.Step.{NotMine}
use Rattle.chew_spec_layout.specs.Table.{Columns, has_key, fed, space, backspace}
use Rattle.chew_spec_layout.proofs.Columns.{has_key_any}

-- a key of neither of two joined columns
of_neither : (xs ys : List ℕ) (key : ℕ) → has_key (xs ++ ys) key ≡ false → (has_key xs key ≡ false) × (has_key ys key ≡ false)
of_neither xs ys key h =
    let both = or_parts _ _ (sym (list_any-append (λ k. eqb k key) xs ys) ∙ (sym (has_key_any (xs ++ ys) key) ∙ h)) in
    (has_key_any xs key ∙ both.0, has_key_any ys key ∙ both.1)

-- a key of no column
record IsOfNone (columns : Columns) (key : ℕ) : Type 0 where
  initial : has_key columns.initials key ≡ false
  medial : has_key columns.medials key ≡ false
  final : has_key columns.finals key ≡ false
  tone : has_key columns.tones key ≡ false

of_none : (columns : Columns) (key : ℕ) → has_key (all_keys columns) key ≡ false → IsOfNone columns key
of_none columns key h =
    let a = of_neither columns.initials (columns.medials ++ (columns.finals ++ columns.tones)) key h in
    let b = of_neither columns.medials (columns.finals ++ columns.tones) key a.1 in
    let d = of_neither columns.finals columns.tones key b.1 in
    record { initial = a.0; medial = b.0; final = d.0; tone = d.1 }

-- it isn't the default layout's or Eten's
pub table_other : (columns : Columns) (held : Parts) (key : ℕ) → has_key (all_keys columns) key ≡ false → (key ≡ 32 → ⊥) → (key ≡ 8 → ⊥)
    → fed columns held key ≡ record { step = NotMine; held = held }
unfolding fed
table_other columns held key h s b =
    let n = of_none columns key h in
    cond-false _ _ _ n.initial ∙ (cond-false _ _ _ n.medial ∙ (cond-false _ _ _ n.final ∙ (cond-false _ _ _ n.tone
    ∙ (cond-false _ _ _ (ne_eqb key space s) ∙ cond-false _ _ _ (ne_eqb key backspace b)))))

-- it is no letter
no_letter : (columns : Columns) (key : ℕ) → IsOfNone columns key → is_letter columns key ≡ false
no_letter columns key n =
    or_from (has_key columns.initials key) (has_key columns.medials key || has_key columns.finals key) n.initial
    (or_from (has_key columns.medials key) (has_key columns.finals key) n.medial n.final)

-- so it isn't Hsu's or ET26's
pub letters_other : (columns : Columns) (held : List ℕ) (key : ℕ) → has_key (all_keys columns) key ≡ false → (key ≡ 32 → ⊥) → (key ≡ 8 → ⊥)
    → fed_letters columns held key ≡ record { step = NotMine; held = held }
unfolding fed_letters
letters_other columns [] key h s b = cond-false _ _ _ (no_letter columns key (of_none columns key h))
letters_other columns (letter ∷ held) key h s b =
    let n = of_none columns key h in
    cond-false _ _ _ (ne_eqb (suc (length held)) 0 (λ e. omega arith)) ∙ (cond-false _ _ _ n.tone
    ∙ (cond-false _ _ _ (ne_eqb key space s) ∙ (cond-false _ _ _ (ne_eqb key backspace b) ∙ cond-false _ _ _ (no_letter columns key n))))

-- a key that is no letter, no tone's and not Backspace isn't Pinyin's
pub pinyin_other : (held : List ℕ) (key : ℕ) → is_pinyin_letter key ≡ false → is_tone_key key ≡ false → (key ≡ 8 → ⊥)
    → fed_spelling held key ≡ record { step = NotMine; held = held }
unfolding fed_spelling
pinyin_other held key l t b =
    cond-false _ _ _ l ∙ cond_both (length held == 0) _ _ (λ (f : SpellingFed). f ≡ record { step = NotMine; held = held }) (λ e. refl)
    (λ e. cond-false _ _ _ t ∙ cond-false _ _ _ (ne_eqb key backspace b))
