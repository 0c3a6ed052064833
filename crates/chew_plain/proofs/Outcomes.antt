-- What a learn and a hide come to, by whether the pair is held, is hidden, and finds room.
use Rattle.std.proofs.Common.{◌≡◌, ℕ, ◌+◌, ◌-◌, ◌<◌, ◌^◌, Bool, true, false, cond, not, max, List, [], ◌∷◌, length, refl, ap, ap₂, sym, ◌∙◌, nat_le, if◌then◌else◌, is_some, Option, Some, None, Result, Ok, Err, OnOk, OnErr, arith}
use Rattle.std.proofs.lemmas.Bool.{cond-true, cond-false}
use Rattle.chew_spec_syllable.specs.Row.{Row, is_pair_of}
use Rattle.chew_spec_dictionary.specs.Frequency.{update}
use Rattle.chew_spec_dictionary.specs.Call.{Full, NotThere, Forgot}
use Rattle.chew_spec_dictionary.specs.HiddenPairs.{is_hidden, shown_rows}
use Rattle.chew_spec_dictionary.specs.System.{is_under, peak_of, row_of, rows_under}
use Rattle.chew_spec_dictionary.specs.Dictionary.{Dictionary, first_freq, forget, held_freq, hid, hide, is_map, learn, learned, put_pair, put_row, relearned_freq, without}
use Rattle.chew_spec_dictionary.proofs.Counts.{count_put, count_without, missed}
use Rattle.chew_spec_dictionary.proofs.Hiding.{hide_of_held, hide_of_new, some_not_none}
use Rattle.chew_spec_dictionary.proofs.Pairs.{found_first, found_later}
use Rattle.chew_spec_dictionary.proofs.Learning.{by_forget, learn_of_new}

-- where a pair is not held, nothing is taken out
pub without_absent : (key phrase : List ℕ) (rows : List Row) → row_of rows key phrase ≡ None → without key phrase rows ≡ rows
without_absent key phrase [] e = refl
without_absent key phrase (row ∷ rows) e = by (is_pair_of key phrase row) refl (without_absent key phrase rows)
  where
    by : (b : Bool) → is_pair_of key phrase row ≡ b → (row_of rows key phrase ≡ None → without key phrase rows ≡ rows) → cond (not b) (row ∷ without key phrase rows) (without key phrase rows) ≡ row ∷ rows
    by true t later = absurd (some_not_none row (sym (found_first key phrase row rows t) ∙ e))
    by false f later = ap (λ l. row ∷ l) (later (sym (found_later key phrase row rows f) ∙ e))

-- a forget leaves the map without the pair, and tells whether it was held
pub forget_left : (had : Dictionary) (key phrase : List ℕ) → (forget had key phrase).left ≡ record had { pairs = without key phrase had.pairs }
forget_left had key phrase = by_forget had key phrase (λ o. o.left ≡ record had { pairs = without key phrase had.pairs })
    (λ n. ap (λ (l : List Row). record had { pairs = l }) (sym (without_absent key phrase had.pairs n)))
    (λ s. refl)

pub forget_reply : (had : Dictionary) (key phrase : List ℕ) (held : Bool) → held ≡ is_some (row_of had.pairs key phrase) → (forget had key phrase).reply ≡ (if held then Forgot else NotThere)
forget_reply had key phrase held e = by_forget had key phrase (λ o. o.reply ≡ (if held then Forgot else NotThere))
    (λ n. sym (cond-false held Forgot NotThere (e ∙ ap is_some n)))
    (λ s. sym (cond-true held Forgot NotThere (e ∙ s)))

-- the rows of a key that are not hidden
pub shown_under : (key : List ℕ) (rows : List Row) → shown_rows (rows_under rows key) ≡ rows_under (shown_rows rows) key
shown_under key [] = refl
shown_under key (row ∷ rows) = by (is_under key row) (not (is_hidden row)) refl refl (shown_under key rows)
  where
    by : (u s : Bool) → is_under key row ≡ u → not (is_hidden row) ≡ s → shown_rows (rows_under rows key) ≡ rows_under (shown_rows rows) key
        → shown_rows (cond u (row ∷ rows_under rows key) (rows_under rows key)) ≡ rows_under (cond s (row ∷ shown_rows rows) (shown_rows rows)) key
    by true true u s later = cond-true _ _ _ s ∙ ap (λ l. row ∷ l) later ∙ sym (cond-true _ _ _ u)
    by true false u s later = cond-false _ _ _ s ∙ later
    by false true u s later = later ∙ sym (cond-false _ _ _ u)
    by false false u s later = later

-- the frequency of a pair that is held and not hidden, once it is learnt again
pub held_next : (had : Dictionary) (row : Row) (orig peak own most ticks next : ℕ) → is_hidden row ≡ false → own ≡ peak_of (shown_rows had.pairs) row.key → most ≡ max (max orig peak) own
    → ticks ≡ had.life - row.time → next ≡ update row.freq orig most ticks → next ≡ held_freq had row orig peak
held_next had row orig peak own most ticks next shown is_own is_most is_ticks is_next =
    is_next ∙ ap₂ (λ m t. update row.freq orig m t) (is_most ∙ ap (max (max orig peak)) is_own) is_ticks
    ∙ sym (cond-false (is_hidden row) (first_freq orig) (relearned_freq had row orig peak) shown)

-- a hide of a pair that is hidden, of one that is held, and of a new one that finds no room or finds some
module _ (had : Dictionary) (key phrase : List ℕ) where
  pub hide_hidden : (row : Row) → row_of had.pairs key phrase ≡ Some row → is_hidden row ≡ true → hide had key phrase ≡ record { left = had; reply = NotThere }
  hide_hidden row e h = hide_of_held had key phrase row true e h

  pub hide_held : (row : Row) → row_of had.pairs key phrase ≡ Some row → is_hidden row ≡ false → hide had key phrase ≡ hid had key phrase row.freq
  hide_held row e h = hide_of_held had key phrase row false e h

  pub hide_full : row_of had.pairs key phrase ≡ None → nat_le had.cap (length had.pairs) ≡ true → hide had key phrase ≡ record { left = had; reply = Full }
  hide_full e f = hide_of_new had key phrase e ∙ cond-true _ _ _ f

  pub hide_new : row_of had.pairs key phrase ≡ None → nat_le had.cap (length had.pairs) ≡ false → hide had key phrase ≡ hid had key phrase 0
  hide_new e f = hide_of_new had key phrase e ∙ cond-false _ _ _ f

  -- a learn of a new pair that finds no room, or finds some
  pub learn_full : (orig peak : ℕ) → row_of had.pairs key phrase ≡ None → nat_le had.cap (length had.pairs) ≡ true → learn had key phrase orig peak ≡ record { left = had; reply = Full }
  learn_full orig peak e f = learn_of_new had key phrase orig peak e ∙ cond-true _ _ _ f

  pub learn_new : (orig peak : ℕ) → row_of had.pairs key phrase ≡ None → nat_le had.cap (length had.pairs) ≡ false → learn had key phrase orig peak ≡ learned had key phrase (first_freq orig)
  learn_new orig peak e f = learn_of_new had key phrase orig peak e ∙ cond-false _ _ _ f

  -- what is put in finds room, where its pair is held and where there is some
  pub room_held : (row : Row) → is_map had.pairs ≡ true → row_of had.pairs key phrase ≡ Some row → length had.pairs < 2 ^ 32 → (freq time : ℕ) → length (put_pair had key phrase freq time) < 2 ^ 32
  room_held row m e few freq time = omega (arith, few, count_put (record { key = key; phrase = phrase; freq = freq; time = time }) had.pairs m, ap missed e)

  pub room_new : is_map had.pairs ≡ true → row_of had.pairs key phrase ≡ None → length had.pairs + 1 < 2 ^ 32 → (freq time : ℕ) → length (put_pair had key phrase freq time) < 2 ^ 32
  room_new m e few freq time = omega (arith, few, count_put (record { key = key; phrase = phrase; freq = freq; time = time }) had.pairs m, ap missed e)

-- a fact that follows of either end of a call
pub either_way : {T E : Type 0} {A B C : Type 0} (r : Result T E) → OnOk r A → OnErr r B → (A → C) → (B → C) → C
either_way (Ok x) a b f g = f a
either_way (Err e) a b f g = g b

pub on_ok : {T E : Type 0} {A B : Type 0} (r : Result T E) → (A → B) → OnOk r A → OnOk r B
on_ok (Ok x) f a = f a
on_ok (Err e) f a = tt

pub on_err : {T E : Type 0} {A B : Type 0} (r : Result T E) → (A → B) → OnErr r A → OnErr r B
on_err (Ok x) f a = tt
on_err (Err e) f a = f a

-- one where a test holds
abbrev pub one_if : Bool → ℕ
one_if b = cond b 1 0

missed_by : (found : Option Row) (new : Bool) → new ≡ not (is_some found) → missed found ≡ one_if new
missed_by None new e = ap one_if (sym e)
missed_by (Some row) new e = ap one_if (sym e)

missed_or_held : (found : Option Row) (held : Bool) → held ≡ is_some found → missed found + one_if held ≡ 1
missed_or_held None held e = ap (λ b. 1 + one_if b) e
missed_or_held (Some row) held e = ap (λ b. 0 + one_if b) e

-- how many rows there are once one was put in, and once a pair was taken out
pub count_grown : (row : Row) (rows : List Row) (new : Bool) → is_map rows ≡ true → new ≡ not (is_some (row_of rows row.key row.phrase)) → length (put_row row rows) ≡ length rows + one_if new
count_grown row rows new m e = omega (arith, count_put row rows m, missed_by (row_of rows row.key row.phrase) new e)

pub count_shrunk : (key phrase : List ℕ) (rows : List Row) (held : Bool) → is_map rows ≡ true → held ≡ is_some (row_of rows key phrase) → length (without key phrase rows) + one_if held ≡ length rows
count_shrunk key phrase rows held m e = omega (arith, count_without key phrase rows m, missed_or_held (row_of rows key phrase) held e)
