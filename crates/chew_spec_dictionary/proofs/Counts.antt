-- How many pairs a map holds.
use Rattle.std.proofs.Common.{◌≡◌, ℕ, ◌+◌, ◌≤◌, ◌<◌, Bool, true, false, List, [], ◌∷◌, not, length, refl, ap, sym, ◌∙◌, cond, leb, ◌==◌, if◌then◌else◌, Greater, is_lt, is_gt, is_some, Option, Some, None, true≢false, arith}
use Rattle.std.specs.List.{list_all}
use Rattle.std.proofs.lemmas.Bool.{and_parts, cond-false, lt-leb}
use Rattle.chew_spec_syllable.specs.Row.{Row, image_cmp, is_pair_of}
use Rattle.chew_spec_dictionary.specs.Call.{Call, Look, Learn, Forget, Hide, Freeze, Install}
use Rattle.chew_spec_dictionary.specs.HiddenPairs.{hidden_time}
use Rattle.chew_spec_dictionary.specs.System.{row_of}
use Rattle.chew_spec_dictionary.specs.Dictionary.{Dictionary, Outcome, held_freq, first_freq, time_of_learn, put_row, without, is_map, learn, forget, hid, hide}
use Rattle.chew_spec_dictionary.specs.History.{Point, Entry, answer, after}
use Rattle.chew_spec_dictionary.proofs.ImageOrder.{by_cases, apart, is_of_pair, tie_is_pair}
use Rattle.chew_spec_dictionary.proofs.Pairs.{found_first, found_later}
use Rattle.chew_spec_dictionary.proofs.Maps.{missing, absent_of, answer_keeps}
use Rattle.chew_spec_dictionary.proofs.Hiding.{by_hide, cap_hidden, some_not_none}
use Rattle.chew_spec_dictionary.proofs.Learning.{learn_of_held, learn_of_new, by_kind, by_forget, cap_learned, cap_forgot}

-- one where a test fails
abbrev unless : Bool → ℕ
unless b = cond b 0 1

-- one for what is not found
abbrev pub missed : Option Row → ℕ
missed o = unless (is_some o)

-- a row put into a map is one more, unless its pair is held
pub count_put : (row : Row) (rows : List Row) → is_map rows ≡ true → length (put_row row rows) ≡ length rows + missed (row_of rows row.key row.phrase)
count_put row [] m = omega arith
count_put row (first ∷ rest) m =
    let both = and_parts (list_all (λ later. is_lt (image_cmp first later)) rest) (is_map rest) m in
    let later = count_put row rest both.1 in
    let n = length rest in
    by_cases (image_cmp row first) (row ∷ (first ∷ rest)) (row ∷ rest) (first ∷ put_row row rest) (λ rows. length rows ≡ length (first ∷ rest) + missed (row_of (first ∷ rest) row.key row.phrase))
    (λ l. let none = ap missed (missing row first rest l both.0) in omega (arith, none))
    (λ t. let same = tie_is_pair row first t in let some = ap missed (found_first row.key row.phrase first rest (is_of_pair row.key row.phrase first (sym same.0) (sym same.1))) in omega (arith, some))
    (λ g. let other = ap missed (found_later row.key row.phrase first rest (apart row first Greater g (λ e. true≢false (ap is_gt e)))) in omega (arith, other, later))

-- a test leaves all rows of which it fails none
count_others : (key phrase : List ℕ) (rows : List Row) → row_of rows key phrase ≡ None → length (without key phrase rows) ≡ length rows
count_others key phrase [] e = refl
count_others key phrase (row ∷ rows) e = by (is_pair_of key phrase row) refl (count_others key phrase rows)
  where
    by : (b : Bool) → is_pair_of key phrase row ≡ b → (row_of rows key phrase ≡ None → length (without key phrase rows) ≡ length rows) → length (cond (not b) (row ∷ without key phrase rows) (without key phrase rows)) ≡ length (row ∷ rows)
    by true t rest = absurd (some_not_none row (sym (found_first key phrase row rows t) ∙ e))
    by false f rest = let all = rest (sym (found_later key phrase row rows f) ∙ e) in omega arith

-- a pair taken out of a map is one less, where it is held
pub count_without : (key phrase : List ℕ) (rows : List Row) → is_map rows ≡ true → length (without key phrase rows) + 1 ≡ length rows + missed (row_of rows key phrase)
count_without key phrase [] m = refl
count_without key phrase (row ∷ rows) m =
    let both = and_parts (list_all (λ later. is_lt (image_cmp row later)) rows) (is_map rows) m in
    by (is_pair_of key phrase row) refl both.0 (count_without key phrase rows both.1)
  where
    by : (b : Bool) → is_pair_of key phrase row ≡ b → list_all (λ later. is_lt (image_cmp row later)) rows ≡ true → length (without key phrase rows) + 1 ≡ length rows + missed (row_of rows key phrase) → length (cond (not b) (row ∷ without key phrase rows) (without key phrase rows)) + 1 ≡ length (row ∷ rows) + missed (row_of (row ∷ rows) key phrase)
    by true t below rest =
        let some = ap missed (found_first key phrase row rows t) in
        let gone = count_others key phrase rows (absent_of key phrase row rows below t) in
        omega (arith, some, gone)
    by false f below rest =
        let later = ap missed (found_later key phrase row rows f) in
        omega (arith, later, rest)

-- a learn of a pair that is held keeps the count
pub count_held : (had : Dictionary) (key phrase : List ℕ) (orig peak : ℕ) (row : Row) → is_map had.pairs ≡ true → row_of had.pairs key phrase ≡ Some row → length (learn had key phrase orig peak).left.pairs ≡ length had.pairs
count_held had key phrase orig peak row m e =
    let put : Row = record { key = key; phrase = phrase; freq = held_freq had row orig peak; time = time_of_learn had } in
    let one = ap (λ (o : Outcome). length o.left.pairs) (learn_of_held had key phrase orig peak row e) in
    omega (arith, one, count_put put had.pairs m, ap missed e)

-- a learn of a new pair that finds room makes one more
pub count_new : (had : Dictionary) (key phrase : List ℕ) (orig peak : ℕ) → is_map had.pairs ≡ true → row_of had.pairs key phrase ≡ None → length had.pairs < had.cap → length (learn had key phrase orig peak).left.pairs ≡ length had.pairs + 1
count_new had key phrase orig peak m e room =
    let put : Row = record { key = key; phrase = phrase; freq = first_freq orig; time = time_of_learn had } in
    let one = ap (λ (o : Outcome). length o.left.pairs) (learn_of_new had key phrase orig peak e ∙ cond-false (leb had.cap (length had.pairs)) _ _ (lt-leb had.cap (length had.pairs) room)) in
    omega (arith, one, count_put put had.pairs m, ap missed e)

-- a forget of a pair that is held makes one less
pub count_forgot : (had : Dictionary) (key phrase : List ℕ) (row : Row) → is_map had.pairs ≡ true → row_of had.pairs key phrase ≡ Some row → length (forget had key phrase).left.pairs + 1 ≡ length had.pairs
count_forgot had key phrase row m e = by_forget had key phrase (λ o. length o.left.pairs + 1 ≡ length had.pairs)
    (λ n. absurd (some_not_none row (sym e ∙ n)))
    (λ s. let some = ap missed e in omega (arith, count_without key phrase had.pairs m))

-- a learn does not fill a map beyond its cap
learn_within : (had : Dictionary) (key phrase : List ℕ) (orig peak : ℕ) → is_map had.pairs ≡ true → length had.pairs ≤ had.cap → length (learn had key phrase orig peak).left.pairs ≤ had.cap
learn_within had key phrase orig peak m l = by_kind had key phrase orig peak (λ d. length d.pairs ≤ had.cap) l
    (λ row e. let put : Row = record { key = key; phrase = phrase; freq = held_freq had row orig peak; time = time_of_learn had } in omega (arith, count_put put had.pairs m, ap missed e))
    (λ e room. let put : Row = record { key = key; phrase = phrase; freq = first_freq orig; time = time_of_learn had } in omega (arith, count_put put had.pairs m, ap missed e))

-- a forget leaves no more pairs
forget_within : (had : Dictionary) (key phrase : List ℕ) → is_map had.pairs ≡ true → length had.pairs ≤ had.cap → length (forget had key phrase).left.pairs ≤ had.cap
forget_within had key phrase m l = by_forget had key phrase (λ o. length o.left.pairs ≤ had.cap) (λ n. l)
    (λ s. let some : missed (row_of had.pairs key phrase) ≡ 0 = ap unless s in omega (arith, count_without key phrase had.pairs m))

-- a hide of a pair that is held keeps the count
pub count_hidden : (had : Dictionary) (key phrase : List ℕ) (row : Row) → is_map had.pairs ≡ true → row_of had.pairs key phrase ≡ Some row → length (hide had key phrase).left.pairs ≡ length had.pairs
count_hidden had key phrase row m e = by_hide had key phrase (λ o. length o.left.pairs ≡ length had.pairs)
    (λ other f h. refl)
    (λ other f h. let put : Row = record { key = key; phrase = phrase; freq = other.freq; time = hidden_time } in omega (arith, count_put put had.pairs m, ap missed e))
    (λ n l. refl)
    (λ n l. absurd (some_not_none row (sym e ∙ n)))

-- a hide of a new pair that finds room makes one more
pub count_hidden_new : (had : Dictionary) (key phrase : List ℕ) → is_map had.pairs ≡ true → row_of had.pairs key phrase ≡ None → length had.pairs < had.cap → length (hide had key phrase).left.pairs ≡ length had.pairs + 1
count_hidden_new had key phrase m e room = by_hide had key phrase (λ o. length o.left.pairs ≡ length had.pairs + 1)
    (λ other f h. absurd (some_not_none other (sym f ∙ e)))
    (λ other f h. absurd (some_not_none other (sym f ∙ e)))
    (λ n l. absurd (omega (arith, l, room)))
    (λ n l. let put : Row = record { key = key; phrase = phrase; freq = 0; time = hidden_time } in omega (arith, count_put put had.pairs m, ap missed e))

-- a hide does not fill a map beyond its cap
hide_within : (had : Dictionary) (key phrase : List ℕ) → is_map had.pairs ≡ true → length had.pairs ≤ had.cap → length (hide had key phrase).left.pairs ≤ had.cap
hide_within had key phrase m l = by_hide had key phrase (λ o. length o.left.pairs ≤ had.cap)
    (λ row e h. l)
    (λ row e h. omega (arith, l, count_put (record { key = key; phrase = phrase; freq = row.freq; time = hidden_time }) had.pairs m, ap missed e))
    (λ n f. l)
    (λ n room. omega (arith, room, count_put (record { key = key; phrase = phrase; freq = 0; time = hidden_time }) had.pairs m, ap missed n))

-- no call fills a map beyond its cap, and none changes the cap
answer_within : (p : Point) (call : Call) → is_map p.dictionary.pairs ≡ true → length p.dictionary.pairs ≤ p.dictionary.cap → length (answer p call).point.dictionary.pairs ≤ (answer p call).point.dictionary.cap
answer_within p (Look run) m l = l
answer_within p (Learn key phrase orig peak) m l = omega (arith, learn_within p.dictionary key phrase orig peak m l, cap_learned p.dictionary key phrase orig peak)
answer_within p (Forget key phrase) m l = omega (arith, forget_within p.dictionary key phrase m l, cap_forgot p.dictionary key phrase)
answer_within p (Hide key phrase) m l = omega (arith, hide_within p.dictionary key phrase m l, cap_hidden p.dictionary key phrase)
answer_within p Freeze m l = l
answer_within p (Install number) m l = l

-- no history fills a map beyond its cap
pub after_within : (p : Point) (h : List Entry) → is_map p.dictionary.pairs ≡ true → length p.dictionary.pairs ≤ p.dictionary.cap → length (after p h).dictionary.pairs ≤ (after p h).dictionary.cap
after_within p [] m l = l
after_within p (e ∷ h) m l = after_within (answer p e.call).point h (answer_keeps p e.call m) (answer_within p e.call m l)
