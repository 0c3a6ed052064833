-- What a spelling is, and what a key does to the letters that are held.
use Rattle.std.proofs.Common.{◌≡◌, ℕ, zero, suc, ◌-◌, ◌≤◌, true, List, [], ◌∷◌, ◌++◌, length, take, Option, Some, None, refl, sym, ap, ◌∙◌, arith, append_assoc, append-nil, length-append, length-take}
use Rattle.std.specs.Prelude.{◌==◌, bytes_eq, slice_index, nat_le, nat_lt}
use Rattle.std.specs.Option.{IfSome, option_map_or}
use Rattle.std.specs.List.{find, list_all}
use Rattle.std.proofs.lemmas.Bool.{and_parts, and_from, cond_both, eqb-true, leb-true, ltb-true, le-leb, lt-ltb}
use Rattle.std.proofs.lemmas.List.Folds.{list_all-append}
use Rattle.std.proofs.lemmas.List.Elements.{All-take}
use Rattle.std.proofs.lemmas.List.Sums.{AllPass-from_list_all, list_all-from_AllPass}
use Rattle.std.proofs.lemmas.Slice.Eq.{bytes_eq-Decides}
use lib.Utf8.{encode}
use Rattle.chew_spec_syllable.specs.Syllable.{Parts, is_syllable, is_code, code_of, parts_of}
use Rattle.chew_spec_syllable.specs.SyllableText.{front_parts, text_of, mark_text, tone_marks}
use Rattle.chew_spec_syllable.proofs.CodeParts.{InRange, in_range, parts_back, code_is}
use Rattle.chew_spec_layout.specs.Step.{Kept, Whole, Refused, Erased, NotMine}
use Rattle.chew_spec_layout.specs.Table.{space, backspace}
use Rattle.chew_spec_layout.specs.Spelling.{Spelling}
use Rattle.chew_spec_layout.specs.Endings.{endings_a, endings_i, endings_u, endings_v, endings_yu, ending_bare}
use Rattle.chew_spec_layout.specs.Spellings.{spellings, alone, plain_initials, n_initials, palatal_initials, bare_initials, spelling_of}
use Rattle.chew_spec_layout.specs.Pinyin.{SpellingFed, is_pinyin_letter, is_tone_key, tone_of, fed_spelling, is_held_spelling}
use Rattle.chew_spec_layout.specs.SpellingKeys.{spells_syllable, IsSpelled}

-- each spelling's marks are a syllable's
all_spell : list_all (λ s. spells_syllable s.marks) spellings ≡ true
unfolding text_of encode spellings alone endings_a endings_i endings_u endings_v endings_yu ending_bare plain_initials n_initials palatal_initials bare_initials
all_spell = refl

-- what the tests say of a spelling
spelled_is : (held : List ℕ) (s : Spelling) → bytes_eq s.letters held ≡ true → spells_syllable s.marks ≡ true → IsSpelled held s
spelled_is held s e h =
    let a = and_parts _ _ h in
    let b = and_parts _ _ a.1 in
    record { letters = (bytes_eq-Decides _ _).0 e; syllable = a.0; no_tone = eqb-true _ _ b.0; text = (bytes_eq-Decides _ _).0 b.1 }

-- what is found in a list is spelled, where all spell
found : (held : List ℕ) (list : List Spelling) → list_all (λ s. spells_syllable s.marks) list ≡ true
    → IfSome (find (λ s. bytes_eq s.letters held) list) (IsSpelled held)
found held [] h = tt
found held (s ∷ list) h =
    let both = and_parts _ _ h in
    cond_both (bytes_eq s.letters held) _ _ (λ o. IfSome o (IsSpelled held)) (λ e. spelled_is held s e both.0) (λ e. found held list both.1)

-- what the held letters spell
pub is_spelled : (held : List ℕ) → IfSome (spelling_of held) (IsSpelled held)
unfolding spelling_of
is_spelled held = found held spellings all_spell

-- a digit's tone is one of the five
tone_at : (n : ℕ) → slice_index (0 ∷ 2 ∷ 3 ∷ 4 ∷ 1 ∷ []) n ≤ 4
tone_at zero = omega arith
tone_at (suc zero) = omega arith
tone_at (suc (suc zero)) = omega arith
tone_at (suc (suc (suc zero))) = omega arith
tone_at (suc (suc (suc (suc zero)))) = omega arith
tone_at (suc (suc (suc (suc (suc n))))) = omega arith

-- and so is every key's
pub tone_le : (key : ℕ) → tone_of key ≤ 4
tone_le key = cond_both (key == space) _ _ (λ n. n ≤ 4) (λ e. omega arith) (λ e. tone_at (key - 49))

-- what holds of each spelling and of none holds of what the letters spell
of_spelling : (P : SpellingFed → Type 0) (held : List ℕ) (tone : ℕ) (o : Option Spelling) → IfSome o (IsSpelled held)
    → ((s : Spelling) → IsSpelled held s → o ≡ Some s → P (record { step = Whole (code_of (record (front_parts s.marks) { tone = tone })); held = [] }))
    → P (record { step = Refused; held = held })
    → P (option_map_or (λ s. record { step = Whole (code_of (record (front_parts s.marks) { tone = tone })); held = [] }) o (record { step = Refused; held = held }))
of_spelling P held tone None h whole refused = refused
of_spelling P held tone (Some s) h whole refused = whole s h refl

-- what holds of each outcome holds of what the key does
pub outcomes : (P : SpellingFed → Type 0) (held : List ℕ) (key : ℕ)
    → (is_pinyin_letter key ≡ true → length held ≤ 5 → P (record { step = Kept; held = held ++ key ∷ [] }))
    → ((s : Spelling) → IsSpelled held s → spelling_of held ≡ Some s → P (record { step = Whole (code_of (record (front_parts s.marks) { tone = tone_of key })); held = [] }))
    → P (record { step = Refused; held = held })
    → P (record { step = NotMine; held = held })
    → P (record { step = Erased; held = take (length held - 1) held })
    → P (fed_spelling held key)
unfolding fed_spelling
outcomes P held key kept whole refused not_mine gone =
    cond_both (is_pinyin_letter key) _ _ P
    (λ e. cond_both (nat_lt (length held) 6) _ _ P (λ f. kept e (let n = ltb-true _ _ f in omega arith)) (λ f. refused))
    (λ e. cond_both (length held == 0) _ _ P (λ f. not_mine)
    (λ f. cond_both (is_tone_key key) _ _ P (λ g. of_spelling P held (tone_of key) (spelling_of held) (is_spelled held) whole refused)
    (λ g. cond_both (key == backspace) _ _ P (λ h. gone) (λ h. not_mine))))

-- the parts of a syllable with another tone are a syllable's
pub toned : (p : Parts) (tone : ℕ) → is_syllable p ≡ true → tone ≤ 4 → is_syllable (record p { tone = tone }) ≡ true
toned p tone h t =
    let r : InRange p = in_range p h in
    and_from _ _ (le-leb _ _ r.initial) (and_from _ _ (le-leb _ _ r.medial) (and_from _ _ (le-leb _ _ r.final) (and_from _ _ (le-leb _ _ t) (lt-ltb _ _ r.some))))

-- and their text is the marks and the tone's mark
text_toned : (p : Parts) (tone : ℕ) → p.tone ≡ 0 → text_of (record p { tone = tone }) ≡ text_of p ++ mark_text tone_marks tone
unfolding text_of
text_toned p tone e = rw e (simp (append_assoc, append-nil))

-- so is the text of their code
code_text : (p : Parts) (tone : ℕ) → p.tone ≡ 0 → is_syllable (record p { tone = tone }) ≡ true
    → text_of (parts_of (code_of (record p { tone = tone }))) ≡ text_of p ++ mark_text tone_marks tone
code_text p tone e h = ap text_of (parts_back (record p { tone = tone }) h) ∙ text_toned p tone e

-- a step tells its code, and an option what it has
same_code : (made code : ℕ) → Whole made ≡ Whole code → made ≡ code
same_code made code e = cc

same_spelling : (a b : Spelling) → Some a ≡ Some b → a ≡ b
same_spelling a b e = cc

-- what is whole is a syllable
pub whole_is_code : (held : List ℕ) (key code : ℕ) → (fed_spelling held key).step ≡ Whole code → is_code code ≡ true
whole_is_code held key code =
    outcomes (λ f. f.step ≡ Whole code → is_code code ≡ true) held key
    (λ e n h. absurd cc)
    (λ s h is e.
    let p : Parts = record (front_parts s.marks) { tone = tone_of key } in
    ap is_code (sym (same_code (code_of p) code e)) ∙ code_is p (toned (front_parts s.marks) (tone_of key) h.syllable (tone_le key)))
    (λ h. absurd cc) (λ h. absurd cc) (λ h. absurd cc)

-- the text of what is whole is the spelling's marks and the tone's mark
pub whole_text : (held : List ℕ) (key code : ℕ) (spelling : Spelling) → spelling_of held ≡ Some spelling → (fed_spelling held key).step ≡ Whole code
    → text_of (parts_of code) ≡ spelling.marks ++ mark_text tone_marks (tone_of key)
whole_text held key code spelling given =
    outcomes (λ f. f.step ≡ Whole code → text_of (parts_of code) ≡ spelling.marks ++ mark_text tone_marks (tone_of key)) held key
    (λ e n h. absurd cc)
    (λ s h is e.
    let p : Parts = record (front_parts s.marks) { tone = tone_of key } in
    let marks : text_of (front_parts s.marks) ≡ spelling.marks = h.text ∙ ap (λ (s : Spelling). s.marks) (same_spelling s spelling (sym is ∙ given)) in
    ap (λ (n : ℕ). text_of (parts_of n)) (sym (same_code (code_of p) code e))
    ∙ (code_text (front_parts s.marks) (tone_of key) h.no_tone (toned (front_parts s.marks) (tone_of key) h.syllable (tone_le key))
    ∙ ap (λ (m : List ℕ). m ++ mark_text tone_marks (tone_of key)) marks))
    (λ h. absurd cc) (λ h. absurd cc) (λ h. absurd cc)

-- after a whole syllable nothing is held
pub empties : (held : List ℕ) (key code : ℕ) → (fed_spelling held key).step ≡ Whole code → (fed_spelling held key).held ≡ []
empties held key code =
    outcomes (λ f. f.step ≡ Whole code → f.held ≡ []) held key
    (λ e n h. absurd cc) (λ s h is e. refl) (λ h. absurd cc) (λ h. absurd cc) (λ h. absurd cc)

-- a refused key changes nothing
pub kept_at_refused : (held : List ℕ) (key : ℕ) → (fed_spelling held key).step ≡ Refused → (fed_spelling held key).held ≡ held
kept_at_refused held key =
    outcomes (λ f. f.step ≡ Refused → f.held ≡ held) held key
    (λ e n h. absurd cc) (λ s h is e. absurd cc) (λ h. refl) (λ h. absurd cc) (λ h. absurd cc)

-- a key that isn't the layout's changes nothing
pub kept_at_not_mine : (held : List ℕ) (key : ℕ) → (fed_spelling held key).step ≡ NotMine → (fed_spelling held key).held ≡ held
kept_at_not_mine held key =
    outcomes (λ f. f.step ≡ NotMine → f.held ≡ held) held key
    (λ e n h. absurd cc) (λ s h is e. absurd cc) (λ h. absurd cc) (λ h. refl) (λ h. absurd cc)

-- a front of letters is letters
letters_front : (n : ℕ) (held : List ℕ) → list_all is_pinyin_letter held ≡ true → list_all is_pinyin_letter (take n held) ≡ true
letters_front n held h = list_all-from_AllPass is_pinyin_letter _ (All-take (λ x. is_pinyin_letter x ≡ true) n held (AllPass-from_list_all is_pinyin_letter held h))

-- what is held, and one letter more
pub one_more : (held : List ℕ) (key : ℕ) → is_held_spelling held ≡ true → is_pinyin_letter key ≡ true → length held ≤ 5 → is_held_spelling (held ++ key ∷ []) ≡ true
one_more held key h e n =
    let both = and_parts (nat_le (length held) 6) (list_all is_pinyin_letter held) h in
    and_from _ _ (le-leb _ _ (simp length-append (omega arith))) (list_all-append is_pinyin_letter held (key ∷ []) ∙ and_from _ _ both.1 (and_from _ _ e refl))

-- and without its last letter
pub one_less : (held : List ℕ) → is_held_spelling held ≡ true → is_held_spelling (take (length held - 1) held) ≡ true
one_less held h =
    let both = and_parts (nat_le (length held) 6) (list_all is_pinyin_letter held) h in
    let short : length held ≤ 6 = leb-true _ _ both.0 in
    and_from _ _ (le-leb _ _ (let n = length-take (length held - 1) held in omega arith)) (letters_front _ held both.1)

-- what is held stays letters, and at most six
pub stays : (held : List ℕ) (key : ℕ) → is_held_spelling held ≡ true → is_held_spelling (fed_spelling held key).held ≡ true
stays held key h =
    outcomes (λ f. is_held_spelling f.held ≡ true) held key
    (λ e n. one_more held key h e n) (λ s g is. refl) h h (one_less held h)
