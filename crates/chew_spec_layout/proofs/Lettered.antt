-- What each key does to Hsu and ET26.
use Rattle.std.proofs.Common.{◌≡◌, ℕ, zero, suc, ◌+◌, ◌≤◌, Bool, true, false, List, [], ◌∷◌, ◌++◌, length, length-take, take, map, Option, Some, None, refl, sym, ap, ◌∙◌, subst, arith}
use Rattle.std.specs.Prelude.{◌==◌, ◌-◌, slice_index}
use Rattle.std.specs.Option.{is_some, option_map_or, unwrap_or}
use Rattle.std.specs.List.{All, filter, find, last_or, list_all, range_with_len}
use Rattle.std.proofs.lemmas.Bool.{and_parts, and_from, cond_both, eqb-true, leb-true, le-leb}
use Rattle.std.proofs.lemmas.List.Elements.{All-nil, All-cons, All-head, All-tail, All-filter}
use Rattle.std.proofs.lemmas.Bool.Decides.{nat_tests}
use Rattle.std.proofs.lemmas.List.Folds.{list_all-append}
use Rattle.chew_spec_syllable.specs.Syllable.{Parts, is_syllable, code_of, is_code}
use Rattle.chew_spec_syllable.proofs.CodeParts.{code_is}
use Rattle.chew_spec_layout.specs.Step.{Whole, Refused, Erased, NotMine}
use Rattle.chew_spec_layout.specs.Table.{Columns, has_key, number_of, space, backspace}
use Rattle.chew_spec_layout.specs.Letters.{Letters, Hsu, Et26, letter_columns, Taken, takings, fits, numbers_of, initial_of, is_final_alone, final_of, parts_taken, is_reading, is_letter, LettersFed, fed_letters, reading_of, whole_reading, with_letter, fed_first, fed_next, are_held_letters}
use Rattle.chew_spec_layout.proofs.Held.{InColumns, number_le}

-- what a key does, fact by fact
record Sound (columns : Columns) (held : List ℕ) (f : LettersFed) : Type 0 where
  empties : (code : ℕ) → f.step ≡ Whole code → f.held ≡ []
  refused : f.step ≡ Refused → f.held ≡ held
  not_mine : f.step ≡ NotMine → f.held ≡ held
  stays : are_held_letters columns held ≡ true → are_held_letters columns f.held ≡ true
  whole : InColumns columns → (code : ℕ) → f.step ≡ Whole code → is_code code ≡ true

-- a refusal
sound_refused : (columns : Columns) (held : List ℕ) → Sound columns held (record { step = Refused; held = held })
sound_refused columns held = record { empties = λ code e. absurd cc; refused = λ e. refl; not_mine = λ e. refl; stays = λ h. h; whole = λ c code e. absurd cc }

-- a key that isn't the layout's
sound_not_mine : (columns : Columns) (held : List ℕ) → Sound columns held (record { step = NotMine; held = held })
sound_not_mine columns held = record { empties = λ code e. absurd cc; refused = λ e. refl; not_mine = λ e. refl; stays = λ h. h; whole = λ c code e. absurd cc }

-- a front of the held letters
front : (p : ℕ → Bool) (n : ℕ) (xs : List ℕ) → list_all p xs ≡ true → list_all p (take n xs) ≡ true
front p zero xs h = refl
front p (suc n) [] h = refl
front p (suc n) (x ∷ xs) h = let a = and_parts _ _ h in and_from _ _ a.0 (front p n xs a.1)

-- an erasing step
sound_erased : (columns : Columns) (held : List ℕ) → Sound columns held (record { step = Erased; held = take (length held - 1) held })
sound_erased columns held = record {
  empties = λ code e. absurd cc;
  refused = λ e. absurd cc;
  not_mine = λ e. absurd cc;
  stays = λ h. let a = and_parts _ _ h in and_from _ _ (le-leb _ _ (let n : length held ≤ 3 = leb-true _ _ a.0 in simp length-take (omega arith))) (front _ _ held a.1);
  whole = λ c code e. absurd cc;
}

-- letters that fit are at most three
at_most_three : (columns : Columns) (held : List ℕ) → is_some (find (fits columns) (takings held)) ≡ true → length held ≤ 3
at_most_three columns [] h = omega arith
at_most_three columns (a ∷ []) h = omega arith
at_most_three columns (a ∷ (b ∷ [])) h = omega arith
at_most_three columns (a ∷ (b ∷ (c ∷ []))) h = omega arith
at_most_three columns (a ∷ (b ∷ (c ∷ (d ∷ rest)))) h = absurd cc

-- one letter more
sound_letter : (columns : Columns) (held : List ℕ) (key : ℕ) → is_letter columns key ≡ true → Sound columns held (with_letter columns held key)
sound_letter columns held key is =
    cond_both (is_some (find (fits columns) (takings (held ++ key ∷ [])))) _ _ (Sound columns held)
    (λ fit. record {
      empties = λ code e. absurd cc;
      refused = λ e. absurd cc;
      not_mine = λ e. absurd cc;
      stays = λ h. and_from _ _ (le-leb _ _ (at_most_three columns _ fit))
          (list_all-append (is_letter columns) held (key ∷ []) ∙ and_from _ _ (and_parts _ _ h).1 (and_from _ _ is refl));
      whole = λ c code e. absurd cc;
    })
    (λ no. sound_refused columns held)

-- a run of numbers ends where its length says
run_at_most : (n a most : ℕ) → a + n ≤ suc most → All (λ k. k ≤ most) (range_with_len a n)
run_at_most zero a most h = All-nil _
run_at_most (suc n) a most h = All-cons (λ k. k ≤ most) a (range_with_len (a + 1) n) (omega arith) (run_at_most n (a + 1) most (omega arith))

-- the numbers of a letter are those of its column
numbers_at_most : (column : List ℕ) (letter : ℕ) → All (λ k. k ≤ length column) (numbers_of column letter)
numbers_at_most column letter =
    All-filter (λ number. slice_index column (number - 1) == letter) (λ k. k ≤ length column) _ (run_at_most (length column) 1 (length column) (omega arith))

-- what is found in a list, or else given, is in range where all is
found_at_most : (p : ℕ → Bool) (most : ℕ) (xs : List ℕ) (other : ℕ) → All (λ k. k ≤ most) xs → other ≤ most → unwrap_or (find p xs) other ≤ most
found_at_most p most [] other h o = o
found_at_most p most (x ∷ xs) other h o =
    cond_both (p x) (Some x) (find p xs) (λ r. unwrap_or r other ≤ most) (λ e. All-head (λ k. k ≤ most) x xs h) (λ e. found_at_most p most xs other (All-tail (λ k. k ≤ most) x xs h) o)

-- so is the last
last_at_most : (most : ℕ) (xs : List ℕ) (before : Option ℕ) → All (λ k. k ≤ most) xs → unwrap_or before 0 ≤ most → unwrap_or (last_or before xs) 0 ≤ most
last_at_most most [] before h o = o
last_at_most most (x ∷ xs) before h o = last_at_most most xs (Some x) (All-tail (λ k. k ≤ most) x xs h) (All-head (λ k. k ≤ most) x xs h)

-- and what a letter stands for, where one is taken
taken_at_most : (f : ℕ → ℕ) (most : ℕ) (letter : Option ℕ) → ((k : ℕ) → f k ≤ most) → option_map_or f letter 0 ≤ most
taken_at_most f most None h = omega arith
taken_at_most f most (Some k) h = h k

-- parts in their ranges, with no tone
record Ranged (p : Parts) : Type 0 where
  initial : p.initial ≤ 21
  medial : p.medial ≤ 3
  final : p.final ≤ 13

-- the final that a letter stands for is in range
final_at_most : (columns : Columns) (alone : Bool) (letter : ℕ) → final_of columns alone letter ≤ length columns.finals
final_at_most columns true letter = last_at_most _ _ None (numbers_at_most columns.finals letter) (omega arith)
final_at_most columns false letter = number_le columns.finals letter

-- the parts that letters are taken for are in range
taken_ranged : (columns : Columns) → InColumns columns → (taken : Taken) → Ranged (parts_taken columns taken)
taken_ranged columns c taken = record {
  initial = taken_at_most _ 21 taken.initial (λ k.
      let n : initial_of columns (option_map_or (number_of columns.medials) taken.medial 0) k ≤ length columns.initials = found_at_most _ _ (numbers_of columns.initials k) _ (numbers_at_most columns.initials k) (number_le columns.initials k) in omega (arith, c.initials));
  medial = taken_at_most _ 3 taken.medial (λ k. let n = number_le columns.medials k in omega (arith, c.medials));
  final = taken_at_most _ 13 taken.final (λ k. let n : final_of columns (is_final_alone taken) k ≤ length columns.finals = final_at_most columns _ k in omega (arith, c.finals));
}

-- a reading with a tone is a syllable
reading_whole : (p : Parts) (tone : ℕ) → Ranged p → tone ≤ 4 → is_reading p ≡ true → is_syllable (record p { tone = tone }) ≡ true
reading_whole p tone r t e =
    and_from _ _ (le-leb _ _ r.initial) (and_from _ _ (le-leb _ _ r.medial) (and_from _ _ (le-leb _ _ r.final) (and_from _ _ (le-leb _ _ t) (grind (arith, nat_tests)))))

-- what is found among the readings is one, in range
found_reading : (columns : Columns) → InColumns columns → (ts : List Taken) (p : Parts) → find is_reading (map (parts_taken columns) ts) ≡ Some p → Ranged p × (is_reading p ≡ true)
found_reading columns c [] p e = absurd cc
found_reading columns c (t ∷ ts) p h =
    cond_both (is_reading (parts_taken columns t)) (Some (parts_taken columns t)) (find is_reading (map (parts_taken columns) ts)) (λ r. r ≡ Some p → Ranged p × (is_reading p ≡ true))
    (λ is e. let same : parts_taken columns t ≡ p = cc in subst (λ q. Ranged q × (is_reading q ≡ true)) same (taken_ranged columns c t, is))
    (λ no e. found_reading columns c ts p e)
    h

-- a step tells its code
whole_code : (made code : ℕ) → Whole made ≡ Whole code → is_code made ≡ true → is_code code ≡ true
whole_code made code e h = let same : made ≡ code = cc in ap is_code (sym same) ∙ h

-- the held letters become a syllable, where they have a reading
sound_whole : (columns : Columns) (held : List ℕ) (tone : ℕ) (reading : Option Parts) → (InColumns columns → tone ≤ 4)
    → (InColumns columns → (p : Parts) → reading ≡ Some p → Ranged p × (is_reading p ≡ true))
    → Sound columns held (option_map_or (λ parts. record { step = Whole (code_of (record parts { tone = tone })); held = [] }) reading (record { step = Refused; held = held }))
sound_whole columns held tone None t r = sound_refused columns held
sound_whole columns held tone (Some p) t r = record {
  empties = λ code e. refl;
  refused = λ e. absurd cc;
  not_mine = λ e. absurd cc;
  stays = λ h. refl;
  whole = λ c code e. let q = r c p refl in whole_code _ code e (code_is (record p { tone = tone }) (reading_whole p tone q.0 (t c) q.1));
}

-- a tone's key or Space
sound_tone : (columns : Columns) (held : List ℕ) (tone : ℕ) → (InColumns columns → tone ≤ 4) → Sound columns held (whole_reading columns held tone)
unfolding reading_of
sound_tone columns held tone t = sound_whole columns held tone (reading_of columns held) t (λ c p e. found_reading columns c (filter (fits columns) (takings held)) p e)

-- a key where nothing is held
sound_first : (columns : Columns) (key : ℕ) → Sound columns [] (fed_first columns key)
sound_first columns key = cond_both (is_letter columns key) _ _ (Sound columns []) (λ is. sound_letter columns [] key is) (λ no. sound_not_mine columns [])

-- a key where something is held
sound_next : (columns : Columns) (held : List ℕ) (key : ℕ) → Sound columns held (fed_next columns held key)
sound_next columns held key =
    cond_both (has_key columns.tones key) _ _ (Sound columns held) (λ e. sound_tone columns held _ (λ c. let n = number_le columns.tones key in omega (arith, c.tones)))
    (λ e. cond_both (key == space) _ _ (Sound columns held) (λ e. sound_tone columns held 0 (λ c. omega arith))
    (λ e. cond_both (key == backspace) _ _ (Sound columns held) (λ e. sound_erased columns held)
    (λ e. cond_both (is_letter columns key) _ _ (Sound columns held) (λ is. sound_letter columns held key is) (λ no. sound_not_mine columns held))))

-- each key
sound : (columns : Columns) (held : List ℕ) (key : ℕ) → Sound columns held (fed_letters columns held key)
unfolding fed_letters
sound columns [] key = sound_first columns key
sound columns (letter ∷ held) key =
    cond_both (length (letter ∷ held) == 0) _ _ (Sound columns (letter ∷ held)) (λ e. absurd (let n : suc (length held) ≡ 0 = eqb-true _ _ e in omega arith)) (λ e. sound_next columns (letter ∷ held) key)

-- after a whole syllable nothing is held
pub empties : (columns : Columns) (held : List ℕ) (key code : ℕ) → (fed_letters columns held key).step ≡ Whole code → (fed_letters columns held key).held ≡ []
empties columns held key = (sound columns held key).empties

-- a refused key changes nothing
pub kept_at_refused : (columns : Columns) (held : List ℕ) (key : ℕ) → (fed_letters columns held key).step ≡ Refused → (fed_letters columns held key).held ≡ held
kept_at_refused columns held key = (sound columns held key).refused

-- a key that isn't the layout's changes nothing
pub kept_at_not_mine : (columns : Columns) (held : List ℕ) (key : ℕ) → (fed_letters columns held key).step ≡ NotMine → (fed_letters columns held key).held ≡ held
kept_at_not_mine columns held key = (sound columns held key).not_mine

-- what is held stays letters of the layout
pub stays : (columns : Columns) (held : List ℕ) (key : ℕ) → are_held_letters columns held ≡ true → are_held_letters columns (fed_letters columns held key).held ≡ true
stays columns held key = (sound columns held key).stays

-- both layouts have as many keys as there are parts
in_columns : (letters : Letters) → InColumns (letter_columns letters)
in_columns Hsu = record { initials = omega arith; medials = omega arith; finals = omega arith; tones = omega arith }
in_columns Et26 = record { initials = omega arith; medials = omega arith; finals = omega arith; tones = omega arith }

-- what is whole is a syllable
pub whole_is_code : (letters : Letters) (held : List ℕ) (key code : ℕ) → (fed_letters (letter_columns letters) held key).step ≡ Whole code → is_code code ≡ true
whole_is_code letters held key = (sound (letter_columns letters) held key).whole (in_columns letters)

-- what the held letters are read as is a syllable with each tone
pub read_syllable : (letters : Letters) (held : List ℕ) (tone : ℕ) (p : Parts) → reading_of (letter_columns letters) held ≡ Some p → tone ≤ 4 → is_syllable (record p { tone = tone }) ≡ true
unfolding reading_of
read_syllable letters held tone p e t =
    let q = found_reading (letter_columns letters) (in_columns letters) (filter (fits (letter_columns letters)) (takings held)) p e in reading_whole p tone q.0 t q.1
