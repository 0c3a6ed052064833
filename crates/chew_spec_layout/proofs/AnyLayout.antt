-- What a key does to any layout.
use Rattle.std.proofs.Common.{◌≡◌, ℕ, zero, suc, true, false, List, [], ◌∷◌, length, refl, sym, ap, ◌∙◌, arith, length-append}
use Rattle.std.proofs.lemmas.Bool.Decides.{nat_tests}
use Rattle.std.proofs.lemmas.Str.{length-encode, len_utf8_bounds}
use Rattle.std.specs.Prelude.{slice_index, nat_lt}
use Rattle.chew_spec_syllable.specs.Syllable.{Parts, is_code}
use Rattle.chew_spec_syllable.specs.SyllableText.{initial_marks, medial_marks, final_marks, mark_text, text_of}
use Rattle.chew_spec_layout.specs.Table.{is_held, columns_of, holds_something, nothing_held}
use Rattle.chew_spec_layout.specs.Layout.{Kind, Standard, Eten, Hsu, Et26, Pinyin, Layout, ByParts, ByLetters, BySpelling, new_layout, kind_in, feed, cleared, holds, shown, is_layout}
use Rattle.chew_spec_layout.specs.Letters.{letter_columns}
use Rattle.chew_spec_layout.specs.Letters as letter
use Rattle.chew_spec_layout.specs.Step.{Whole, Refused, NotMine}
use Rattle.chew_spec_layout.specs.Table as table
use Rattle.chew_spec_layout.proofs.Fed as by_parts
use Rattle.chew_spec_layout.proofs.Held as in_parts
use Rattle.chew_spec_layout.proofs.Lettered as by_letters
use Rattle.chew_spec_layout.proofs.Spelling as by_spelling

-- a new layout is of its kind, and holds and shows nothing
pub new-kind : (kind : Kind) → kind_in (new_layout kind) ≡ kind
new-kind Standard = refl
new-kind Eten = refl
new-kind Hsu = refl
new-kind Et26 = refl
new-kind Pinyin = refl

pub new-holds : (kind : Kind) → holds (new_layout kind) ≡ false
new-holds Standard = refl
new-holds Eten = refl
new-holds Hsu = refl
new-holds Et26 = refl
new-holds Pinyin = refl

pub new-shown : (kind : Kind) → shown (new_layout kind) ≡ []
unfolding text_of
new-shown Standard = refl
new-shown Eten = refl
new-shown Hsu = refl
new-shown Et26 = refl
new-shown Pinyin = refl

pub new-in_range : (kind : Kind) → is_layout (new_layout kind) ≡ true
new-in_range Standard = refl
new-in_range Eten = refl
new-in_range Hsu = refl
new-in_range Et26 = refl
new-in_range Pinyin = refl

-- cleared, a layout is a new one
pub cleared-new : (layout : Layout) → cleared layout ≡ new_layout (kind_in layout)
cleared-new (ByParts table.Standard held) = refl
cleared-new (ByParts table.Eten held) = refl
cleared-new (ByLetters letter.Hsu held) = refl
cleared-new (ByLetters letter.Et26 held) = refl
cleared-new (BySpelling held) = refl

-- without what it holds it holds nothing
pub holds-cleared : (layout : Layout) → holds (cleared layout) ≡ false
holds-cleared (ByParts table held) = refl
holds-cleared (ByLetters letters held) = refl
holds-cleared (BySpelling held) = refl

-- and where it holds nothing, it is so already
parts-empty : (held : Parts) → is_held held ≡ true → holds_something held ≡ false → held ≡ nothing_held
parts-empty held h none = grind (arith, nat_tests)

pub cleared-empty : (layout : Layout) → is_layout layout ≡ true → holds layout ≡ false → cleared layout ≡ layout
cleared-empty (ByParts table held) h none = ap (ByParts table) (sym (parts-empty held h none))
cleared-empty (ByLetters letters []) h none = refl
cleared-empty (ByLetters letters (letter ∷ held)) h none = absurd (grind (arith, nat_tests))
cleared-empty (BySpelling []) h none = refl
cleared-empty (BySpelling (letter ∷ held)) h none = absurd (grind (arith, nat_tests))

pub empty-new : (layout : Layout) → is_layout layout ≡ true → holds layout ≡ false → layout ≡ new_layout (kind_in layout)
empty-new layout h none = sym (cleared-empty layout h none) ∙ cleared-new layout

-- a whole syllable leaves nothing held
pub feed-cleared : (layout : Layout) (key code : ℕ) → (feed layout key).step ≡ Whole code → (feed layout key).layout ≡ cleared layout
feed-cleared (ByParts table held) key code h = ap (ByParts table) (by_parts.empties (columns_of table) held key code h)
feed-cleared (ByLetters letters held) key code h = ap (ByLetters letters) (by_letters.empties (letter_columns letters) held key code h)
feed-cleared (BySpelling held) key code h = ap BySpelling (by_spelling.empties held key code h)

pub feed-new : (layout : Layout) (key code : ℕ) → (feed layout key).step ≡ Whole code → (feed layout key).layout ≡ new_layout (kind_in layout)
feed-new layout key code h = feed-cleared layout key code h ∙ cleared-new layout

pub feed-holds : (layout : Layout) (key code : ℕ) → (feed layout key).step ≡ Whole code → holds (feed layout key).layout ≡ false
feed-holds layout key code h = ap holds (feed-cleared layout key code h) ∙ holds-cleared layout

-- a key that can't stand here and one that isn't the layout's change nothing
pub feed-refused : (layout : Layout) (key : ℕ) → (feed layout key).step ≡ Refused → (feed layout key).layout ≡ layout
feed-refused (ByParts table held) key h = ap (ByParts table) (by_parts.kept_at_refused (columns_of table) held key h)
feed-refused (ByLetters letters held) key h = ap (ByLetters letters) (by_letters.kept_at_refused (letter_columns letters) held key h)
feed-refused (BySpelling held) key h = ap BySpelling (by_spelling.kept_at_refused held key h)

pub feed-not_mine : (layout : Layout) (key : ℕ) → (feed layout key).step ≡ NotMine → (feed layout key).layout ≡ layout
feed-not_mine (ByParts table held) key h = ap (ByParts table) (by_parts.kept_at_not_mine (columns_of table) held key h)
feed-not_mine (ByLetters letters held) key h = ap (ByLetters letters) (by_letters.kept_at_not_mine (letter_columns letters) held key h)
feed-not_mine (BySpelling held) key h = ap BySpelling (by_spelling.kept_at_not_mine held key h)

-- a layout keeps its kind
pub feed-kind : (layout : Layout) (key : ℕ) → kind_in (feed layout key).layout ≡ kind_in layout
feed-kind (ByParts table.Standard held) key = refl
feed-kind (ByParts table.Eten held) key = refl
feed-kind (ByLetters letter.Hsu held) key = refl
feed-kind (ByLetters letter.Et26 held) key = refl
feed-kind (BySpelling held) key = refl

-- what is held stays in the range of its kind, and what is whole is a syllable
pub feed-in_range : (layout : Layout) (key : ℕ) → is_layout layout ≡ true → is_layout (feed layout key).layout ≡ true
feed-in_range (ByParts table held) key h = in_parts.stays table held key h
feed-in_range (ByLetters letters held) key h = by_letters.stays (letter_columns letters) held key h
feed-in_range (BySpelling held) key h = by_spelling.stays held key h

pub feed-code : (layout : Layout) (key code : ℕ) → is_layout layout ≡ true → (feed layout key).step ≡ Whole code → is_code code ≡ true
feed-code (ByParts table held) key code h is = in_parts.whole_is_code table held key code h is
feed-code (ByLetters letters held) key code h is = by_letters.whole_is_code letters held key code is
feed-code (BySpelling held) key code h is = by_spelling.whole_is_code held key code is

-- where it holds nothing, it shows nothing
pub shown-empty : (layout : Layout) → is_layout layout ≡ true → holds layout ≡ false → shown layout ≡ []
shown-empty layout h none = ap shown (empty-new layout h none) ∙ new-shown (kind_in layout)

-- a part's mark is no empty text
mark-none : (marks : List ℕ) (number : ℕ) → length (mark_text marks number) ≡ 0 → number ≡ 0
mark-none marks zero h = refl
mark-none marks (suc n) h =
    let c = slice_index marks n in
    absurd (omega (arith, h, length-encode c, (len_utf8_bounds c).0))

-- so where the text is empty, there are no parts
text-none : (held : Parts) → text_of held ≡ [] → holds_something held ≡ false
unfolding text_of
text-none held h =
    let marks = simp length-append at (ap length h) in
    let initial : held.initial ≡ 0 = mark-none initial_marks held.initial (omega arith) in
    let medial : held.medial ≡ 0 = mark-none medial_marks held.medial (omega arith) in
    let final : held.final ≡ 0 = mark-none final_marks held.final (omega arith) in
    grind (arith, nat_tests)

-- and where it shows nothing, it holds nothing
pub shown-none : (layout : Layout) → shown layout ≡ [] → holds layout ≡ false
shown-none (ByParts table held) h = text-none held h
shown-none (ByLetters letters held) h = ap (λ (held : List ℕ). nat_lt 0 (length held)) h
shown-none (BySpelling held) h = ap (λ (held : List ℕ). nat_lt 0 (length held)) h
