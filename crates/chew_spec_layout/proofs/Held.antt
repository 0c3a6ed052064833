-- What a layout holds is in the range of its parts.
use Rattle.std.proofs.Common.{◌≡◌, ℕ, suc, ◌<◌, ◌≤◌, true, cond, ltb, eqb, List, length, Option, Some, None, refl, sym, ap, ◌∙◌, arith}
use Rattle.std.specs.Option.{is_some, option_map_or}
use Rattle.std.specs.List.{position_or_len}
use Rattle.std.specs.Prelude.{◌==◌}
use Rattle.std.proofs.lemmas.Bool.{and_parts, and_from, leb-true, le-leb, ltb-true, lt-ltb, eqb-true, eq-eqb, cond_both}
use Rattle.chew_spec_syllable.specs.Syllable.{Parts, is_syllable, is_code}
use Rattle.chew_spec_syllable.proofs.CodeParts.{code_is}
use Rattle.chew_spec_layout.specs.Step.{Step, Kept, Whole, Refused, Erased, NotMine}
use Rattle.chew_spec_layout.specs.Table.{Columns, Fed, Table, Standard, Eten, columns_of, has_key, number_of, fed, whole_or, without_last, holds_something, nothing_held, space, backspace, is_held}

-- a place in a list of this length, counted from 1; 0 where there is none
number_at_most : (place count : ℕ) → option_map_or suc (cond (ltb place count) (Some place) None) 0 ≤ count
number_at_most place count =
    cond_both (ltb place count) (Some place) None (λ o. option_map_or suc o 0 ≤ count) (λ e. let h = ltb-true _ _ e in omega arith) (λ e. omega arith)

-- a part's number is at most the number of its column's keys
pub number_le : (column : List ℕ) (key : ℕ) → number_of column key ≤ length column
number_le column key = number_at_most (position_or_len (λ k. eqb k key) column) (length column)

-- a key of the column has a number above 0
number_above : (o : Option ℕ) → is_some o ≡ true → 0 < option_map_or suc o 0
number_above None e = absurd cc
number_above (Some n) e = omega arith

-- columns with as many keys as there are parts
pub record InColumns (columns : Columns) : Type 0 where
  pub initials : length columns.initials ≤ 21
  pub medials : length columns.medials ≤ 3
  pub finals : length columns.finals ≤ 13
  pub tones : length columns.tones ≤ 4

-- both layouts have as many keys as there are parts
in_columns : (table : Table) → InColumns (columns_of table)
in_columns Standard = record { initials = omega arith; medials = omega arith; finals = omega arith; tones = omega arith }
in_columns Eten = record { initials = omega arith; medials = omega arith; finals = omega arith; tones = omega arith }

-- what `is_held` says
record Held (held : Parts) : Type 0 where
  initial : held.initial ≤ 21
  medial : held.medial ≤ 3
  final : held.final ≤ 13
  tone : held.tone ≡ 0

-- what the test says, fact by fact
held_is : (held : Parts) → is_held held ≡ true → Held held
held_is held h =
    let a = and_parts _ _ h in
    let b = and_parts _ _ a.1 in
    let d = and_parts _ _ b.1 in
    record { initial = leb-true _ _ a.0; medial = leb-true _ _ b.0; final = leb-true _ _ d.0; tone = eqb-true _ _ d.1 }

-- and back
is_held_from : (held : Parts) → Held held → is_held held ≡ true
is_held_from held h =
    and_from _ _ (le-leb _ _ h.initial) (and_from _ _ (le-leb _ _ h.medial) (and_from _ _ (le-leb _ _ h.final) (eq-eqb _ _ h.tone)))

-- each key leaves what is held in range, and makes a syllable whole
record Good (f : Fed) : Type 0 where
  held : Held f.held
  whole : (code : ℕ) → f.step ≡ Whole code → is_code code ≡ true

-- a kept key
good_kept : (next : Parts) → Held next → Good (record { step = Kept; held = next })
good_kept next h = record { held = h; whole = λ code e. absurd cc }

-- an erasing step
good_erased : (next : Parts) → Held next → Good (record { step = Erased; held = next })
good_erased next h = record { held = h; whole = λ code e. absurd cc }

-- a refusal
good_refused : (held : Parts) → Held held → Good (record { step = Refused; held = held })
good_refused held h = record { held = h; whole = λ code e. absurd cc }

-- a key that isn't the layout's
good_not_mine : (held : Parts) → Held held → Good (record { step = NotMine; held = held })
good_not_mine held h = record { held = h; whole = λ code e. absurd cc }

-- where nothing is held, it is in range
nothing_is_held : Held nothing_held
nothing_is_held = record { initial = omega arith; medial = omega arith; final = omega arith; tone = refl }

-- what is held is a syllable with each tone
with_tone : (held : Parts) (tone : ℕ) → Held held → tone ≤ 4 → holds_something held ≡ true → is_syllable (record held { tone = tone }) ≡ true
with_tone held tone h t e =
    and_from _ _ (le-leb _ _ h.initial) (and_from _ _ (le-leb _ _ h.medial) (and_from _ _ (le-leb _ _ h.final) (and_from _ _ (le-leb _ _ t) e)))

-- a step tells its code
whole_code : (code made : ℕ) → Whole made ≡ Whole code → is_code made ≡ true → is_code code ≡ true
whole_code code made e h = let same : made ≡ code = cc in ap is_code (sym same) ∙ h

-- what is held becomes whole, or the step is another
good_whole : (otherwise : Step) (held : Parts) (tone : ℕ) → Held held → tone ≤ 4 → Good (record { step = otherwise; held = held }) → Good (whole_or otherwise held tone)
good_whole otherwise held tone h t other =
    cond_both (holds_something held) _ _ Good
    (λ e. record { held = nothing_is_held; whole = λ code is. whole_code code _ is (code_is (record held { tone = tone }) (with_tone held tone h t e)) })
    (λ e. other)

-- without a part it stays in range
good_without : (held : Parts) → Held held → Held (without_last held)
good_without held h =
    cond_both (ltb 0 held.final) _ _ Held
    (λ e. record { initial = h.initial; medial = h.medial; final = omega arith; tone = h.tone })
    (λ e. cond_both (ltb 0 held.medial) _ _ Held
    (λ f. record { initial = h.initial; medial = omega arith; final = h.final; tone = h.tone })
    (λ f. record { initial = omega arith; medial = h.medial; final = h.final; tone = h.tone }))

-- each key
good : (columns : Columns) (held : Parts) (key : ℕ) → InColumns columns → Held held → Good (fed columns held key)
unfolding fed
good columns held key c h =
    cond_both (has_key columns.initials key) _ _ Good
    (λ e. good_kept _ (record { initial = (let n = number_le columns.initials key in omega (arith, c.initials)); medial = h.medial; final = h.final; tone = h.tone }))
    (λ e. cond_both (has_key columns.medials key) _ _ Good
    (λ e. good_kept _ (record { initial = h.initial; medial = (let n = number_le columns.medials key in omega (arith, c.medials)); final = h.final; tone = h.tone }))
    (λ e. cond_both (has_key columns.finals key) _ _ Good
    (λ e. good_kept _ (record { initial = h.initial; medial = h.medial; final = (let n = number_le columns.finals key in omega (arith, c.finals)); tone = h.tone }))
    (λ e. cond_both (has_key columns.tones key) _ _ Good
    (λ e. good_whole Refused held _ h (let n = number_le columns.tones key in omega (arith, c.tones)) (good_refused held h))
    (λ e. cond_both (key == space) _ _ Good
    (λ e. good_whole NotMine held 0 h (omega arith) (good_not_mine held h))
    (λ e. cond_both (key == backspace) _ _ Good
    (λ e. cond_both (holds_something held) _ _ Good (λ f. good_erased _ (good_without held h)) (λ f. good_not_mine held h))
    (λ e. good_not_mine held h))))))

-- what is held stays in range
pub stays : (table : Table) (held : Parts) (key : ℕ) → is_held held ≡ true → is_held (fed (columns_of table) held key).held ≡ true
stays table held key h = is_held_from _ (good (columns_of table) held key (in_columns table) (held_is held h)).held

-- what is whole is a syllable
pub whole_is_code : (table : Table) (held : Parts) (key code : ℕ) → is_held held ≡ true → (fed (columns_of table) held key).step ≡ Whole code → is_code code ≡ true
whole_is_code table held key code h = (good (columns_of table) held key (in_columns table) (held_is held h)).whole code

-- something is held where the key was kept
abbrev Something : Fed → Type 0
Something f = f.step ≡ Kept → holds_something f.held ≡ true

-- a whole syllable is no kept key
something_whole : (otherwise : Step) (held : Parts) (tone : ℕ) → Something (record { step = otherwise; held = held }) → Something (whole_or otherwise held tone)
something_whole otherwise held tone other = cond_both (holds_something held) _ _ Something (λ e f. absurd cc) (λ e. other)

-- after a kept key something is held
pub kept_held : (columns : Columns) (held : Parts) (key : ℕ) → (fed columns held key).step ≡ Kept → holds_something (fed columns held key).held ≡ true
unfolding fed
kept_held columns held key =
    cond_both (has_key columns.initials key) _ _ Something
    (λ e f. lt-ltb _ _ (let n : 0 < number_of columns.initials key = number_above _ e in omega arith))
    (λ e. cond_both (has_key columns.medials key) _ _ Something
    (λ e f. lt-ltb _ _ (let n : 0 < number_of columns.medials key = number_above _ e in omega arith))
    (λ e. cond_both (has_key columns.finals key) _ _ Something
    (λ e f. lt-ltb _ _ (let n : 0 < number_of columns.finals key = number_above _ e in omega arith))
    (λ e. cond_both (has_key columns.tones key) _ _ Something
    (λ e. something_whole Refused held _ (λ f. absurd cc))
    (λ e. cond_both (key == space) _ _ Something
    (λ e. something_whole NotMine held 0 (λ f. absurd cc))
    (λ e. cond_both (key == backspace) _ _ Something
    (λ e. cond_both (holds_something held) _ _ Something (λ f g. absurd cc) (λ f g. absurd cc))
    (λ e f. absurd cc))))))
