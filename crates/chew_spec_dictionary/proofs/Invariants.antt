-- What stays through a history: rows in range, times not after the life, the cap, and the order of the shape's numbers.
use Rattle.std.proofs.Common.{◌≡◌, ℕ, ◌+◌, ◌-◌, ◌^◌, ◌≤◌, min, Bool, true, false, List, [], ◌∷◌, ◌&&◌, ◌||◌, Some, not, length, map, refl, ap, sym, ◌∙◌, cond, eqb, nat_le, ◌==◌, if◌then◌else◌, arith}
use Rattle.std.specs.List.{list_all, filter}
use Rattle.std.proofs.lemmas.Bool.{cond_both, or_left, or_right, and_parts, and_from, le-leb, leb-true}
use Rattle.chew_spec_syllable.specs.Row.{Row, image_cmp, is_row, is_pair, is_pair_of, greatest_freq}
use Rattle.chew_spec_dictionary.specs.Call.{Call, Look, Learn, Forget, Hide, Freeze, Install, Reply, is_proper}
use Rattle.chew_spec_dictionary.specs.HiddenPairs.{can_hide, hidden_time, is_hidden}
use Rattle.chew_spec_dictionary.specs.System.{row_of}
use Rattle.chew_spec_dictionary.specs.Dictionary.{Dictionary, held_freq, relearned_freq, first_freq, time_of_learn, put_row, learn, hide}
use Rattle.chew_spec_dictionary.specs.History.{Point, Entry, answer, after, replies, calls_of, is_legal, is_legal_entry, installs_waiting, is_keepers}
use Rattle.chew_spec_dictionary.proofs.ImageOrder.{by_cases}
use Rattle.chew_spec_dictionary.proofs.Updates.{update_most}
use Rattle.chew_spec_dictionary.proofs.Pairs.{found_first, found_later}
use Rattle.chew_spec_dictionary.proofs.Learning.{by_kind, by_learn, by_forget, cap_learned, cap_forgot}
use Rattle.chew_spec_dictionary.proofs.Hiding.{by_hide, by_hidden, cap_hidden, some_not_none}

-- a test that a row passes, as others do, is passed by all once it is put in
all_put : (test : Row → Bool) (row : Row) (rows : List Row) → test row ≡ true → list_all test rows ≡ true → list_all test (put_row row rows) ≡ true
all_put test row [] t a = and_from _ _ t refl
all_put test row (first ∷ rest) t a =
    let both = and_parts (test first) (list_all test rest) a in
    let later = all_put test row rest t both.1 in
    by_cases (image_cmp row first) (row ∷ (first ∷ rest)) (row ∷ rest) (first ∷ put_row row rest) (λ rows. list_all test rows ≡ true)
    (λ _. and_from _ _ t a)
    (λ _. and_from _ _ t both.1)
    (λ _. and_from _ _ both.0 later)

-- a test that all pass is passed by all that are kept
all_kept : (test keep : Row → Bool) (rows : List Row) → list_all test rows ≡ true → list_all test (filter keep rows) ≡ true
all_kept test keep [] a = refl
all_kept test keep (row ∷ rows) a =
    let both = and_parts (test row) (list_all test rows) a in
    let later = all_kept test keep rows both.1 in
    cond_both (keep row) (row ∷ filter keep rows) (filter keep rows) (λ l. list_all test l ≡ true) (λ _. and_from _ _ both.0 later) (λ _. later)

-- the frequency of a new pair, and of one that is learnt again, is in range
first_most : (orig : ℕ) → orig ≤ 99_999_999 → first_freq orig ≤ 99_999_999
first_most orig l = cond_both (eqb orig 0) 1 orig (λ f. f ≤ 99_999_999) (λ _. omega arith) (λ _. l)

held_most : (had : Dictionary) (row : Row) (orig peak : ℕ) → orig ≤ 99_999_999 → held_freq had row orig peak ≤ 99_999_999
held_most had row orig peak l = cond_both (is_hidden row) (first_freq orig) (relearned_freq had row orig peak) (λ f. f ≤ 99_999_999) (λ _. first_most orig l) (λ _. update_most row.freq orig _ (had.life - row.time))

-- a test that all rows pass is passed by the one that is found
found_passes : (test : Row → Bool) (rows : List Row) (key phrase : List ℕ) (row : Row) → list_all test rows ≡ true → row_of rows key phrase ≡ Some row → test row ≡ true
found_passes test [] key phrase row a e = absurd (some_not_none row (sym e))
found_passes test (first ∷ rest) key phrase row a e =
    let both = and_parts (test first) (list_all test rest) a in
    by (is_pair_of key phrase first) refl both.0 (found_passes test rest key phrase row both.1)
  where
    by : (b : Bool) → is_pair_of key phrase first ≡ b → test first ≡ true → (row_of rest key phrase ≡ Some row → test row ≡ true) → test row ≡ true
    by true t one later = let same : Some first ≡ Some row = sym (found_first key phrase first rest t) ∙ e in let one_row : first ≡ row = cc in ap test (sym one_row) ∙ one
    by false f one later = later (sym (found_later key phrase first rest f) ∙ e)

-- a learn that may be made leaves rows in range
learn_rows : (had : Dictionary) (key phrase : List ℕ) (orig peak : ℕ) → is_proper (Learn key phrase orig peak) ≡ true → list_all is_row had.pairs ≡ true → list_all is_row (learn had key phrase orig peak).left.pairs ≡ true
learn_rows had key phrase orig peak proper a =
    let pair = and_parts (is_pair key phrase) (nat_le orig peak && nat_le peak greatest_freq) proper in
    let freqs = and_parts (nat_le orig peak) (nat_le peak greatest_freq) pair.1 in
    let low = leb-true orig peak freqs.0 in
    let high = leb-true peak 99_999_999 freqs.1 in
    by_kind had key phrase orig peak (λ d. list_all is_row d.pairs ≡ true) a
    (λ row e. let put : Row = record { key = key; phrase = phrase; freq = held_freq had row orig peak; time = time_of_learn had } in all_put is_row put had.pairs (and_from _ _ pair.0 (le-leb (held_freq had row orig peak) 99_999_999 (held_most had row orig peak (omega arith)))) a)
    (λ e room. let put : Row = record { key = key; phrase = phrase; freq = first_freq orig; time = time_of_learn had } in all_put is_row put had.pairs (and_from _ _ pair.0 (le-leb (first_freq orig) 99_999_999 (first_most orig (omega arith)))) a)

-- a hide that may be made leaves rows in range
hide_rows : (had : Dictionary) (key phrase : List ℕ) → is_proper (Hide key phrase) ≡ true → list_all is_row had.pairs ≡ true → list_all is_row (hide had key phrase).left.pairs ≡ true
hide_rows had key phrase proper a =
    let pair = and_parts (is_pair key phrase) (can_hide key) proper in
    by_hide had key phrase (λ o. list_all is_row o.left.pairs ≡ true) (λ row e h. a)
    (λ row e h. let range = and_parts (is_pair row.key row.phrase) (nat_le row.freq greatest_freq) (found_passes is_row had.pairs key phrase row a e) in
    let put : Row = record { key = key; phrase = phrase; freq = row.freq; time = hidden_time } in all_put is_row put had.pairs (and_from _ _ pair.0 range.1) a)
    (λ n l. a)
    (λ n l. let put : Row = record { key = key; phrase = phrase; freq = 0; time = hidden_time } in all_put is_row put had.pairs (and_from _ _ pair.0 refl) a)

-- a call that may be made leaves rows in range
answer_rows : (p : Point) (call : Call) → is_proper call ≡ true → list_all is_row p.dictionary.pairs ≡ true → list_all is_row (answer p call).point.dictionary.pairs ≡ true
answer_rows p (Look run) proper a = a
answer_rows p (Learn key phrase orig peak) proper a = learn_rows p.dictionary key phrase orig peak proper a
answer_rows p (Forget key phrase) proper a = by_forget p.dictionary key phrase (λ o. list_all is_row o.left.pairs ≡ true) (λ _. a) (λ _. all_kept is_row (λ row. not (is_pair_of key phrase row)) p.dictionary.pairs a)
answer_rows p (Hide key phrase) proper a = hide_rows p.dictionary key phrase proper a
answer_rows p Freeze proper a = a
answer_rows p (Install number) proper a = a

-- the parts of a legal history: its first call may be made and installs what waits, and the rest is legal
pub legal_parts : (p : Point) (e : Entry) (h : List Entry) → is_legal p (e ∷ h) ≡ true → (is_proper e.call ≡ true) × (installs_waiting p e.call ≡ true) × (is_legal (answer p e.call).point h ≡ true)
legal_parts p e h l =
    let both = and_parts (is_legal_entry p e) (is_legal (answer p e.call).point h) l in
    let entry = and_parts (if e.who == 0 then is_keepers e.call else not (is_keepers e.call)) (is_proper e.call && installs_waiting p e.call) both.0 in
    let call = and_parts (is_proper e.call) (installs_waiting p e.call) entry.1 in
    (call.0, call.1, both.1)

-- a legal history leaves rows in range
pub after_rows : (p : Point) (h : List Entry) → is_legal p h ≡ true → list_all is_row p.dictionary.pairs ≡ true → list_all is_row (after p h).dictionary.pairs ≡ true
after_rows p [] l a = a
after_rows p (e ∷ h) l a = let parts = legal_parts p e h l in after_rows (answer p e.call).point h parts.2 (answer_rows p e.call parts.0 a)

-- no call changes the cap
answer_cap : (p : Point) (call : Call) → (answer p call).point.dictionary.cap ≡ p.dictionary.cap
answer_cap p (Look run) = refl
answer_cap p (Learn key phrase orig peak) = cap_learned p.dictionary key phrase orig peak
answer_cap p (Forget key phrase) = cap_forgot p.dictionary key phrase
answer_cap p (Hide key phrase) = cap_hidden p.dictionary key phrase
answer_cap p Freeze = refl
answer_cap p (Install number) = refl

-- no history changes the cap
pub after_cap : (p : Point) (h : List Entry) → (after p h).dictionary.cap ≡ p.dictionary.cap
after_cap p [] = refl
after_cap p (e ∷ h) = after_cap (answer p e.call).point h ∙ answer_cap p e.call

-- no call lets the life fall, or rise beyond its end
answer_life : (p : Point) (call : Call) → p.dictionary.life ≤ 2 ^ 64 - 1 → (p.dictionary.life ≤ (answer p call).point.dictionary.life) × ((answer p call).point.dictionary.life ≤ 2 ^ 64 - 1)
answer_life p (Look run) l = (omega arith, l)
answer_life p (Learn key phrase orig peak) l = by_learn p.dictionary key phrase orig peak (λ d. (p.dictionary.life ≤ d.life) × (d.life ≤ 2 ^ 64 - 1)) (omega arith, l) (λ _. (omega arith, omega arith))
answer_life p (Forget key phrase) l = by_forget p.dictionary key phrase (λ o. (p.dictionary.life ≤ o.left.life) × (o.left.life ≤ 2 ^ 64 - 1)) (λ _. (omega arith, l)) (λ _. (omega arith, l))
answer_life p (Hide key phrase) l = by_hidden p.dictionary key phrase (λ d. (p.dictionary.life ≤ d.life) × (d.life ≤ 2 ^ 64 - 1)) (omega arith, l) (λ _. (omega arith, l))
answer_life p Freeze l = (omega arith, l)
answer_life p (Install number) l = (omega arith, l)

-- no history lets the life fall, or rise beyond its end
pub after_life : (p : Point) (h : List Entry) → p.dictionary.life ≤ 2 ^ 64 - 1 → (p.dictionary.life ≤ (after p h).dictionary.life) × ((after p h).dictionary.life ≤ 2 ^ 64 - 1)
after_life p [] l = (omega arith, l)
after_life p (e ∷ h) l =
    let one = answer_life p e.call l in
    let rest = after_life (answer p e.call).point h one.1 in
    (omega (arith, one.0, rest.0), rest.1)

-- a pair is hidden, or its time is not after a life
abbrev pub not_after : ℕ → Row → Bool
not_after life row = is_hidden row || nat_le row.time life

-- a time that is not after a life is not after a later one
time_later : (life later : ℕ) (row : Row) → life ≤ later → not_after life row ≡ true → not_after later row ≡ true
time_later life later row l a = by (is_hidden row) a
  where
    by : (b : Bool) → (b || nat_le row.time life) ≡ true → (b || nat_le row.time later) ≡ true
    by true t = refl
    by false t = le-leb row.time later (let low = leb-true row.time life t in omega arith)

-- so of all rows
times_later : (life later : ℕ) (rows : List Row) → life ≤ later → list_all (not_after life) rows ≡ true → list_all (not_after later) rows ≡ true
times_later life later [] l a = refl
times_later life later (row ∷ rows) l a =
    let both = and_parts (not_after life row) (list_all (not_after life) rows) a in
    and_from _ _ (time_later life later row l both.0) (times_later life later rows l both.1)

-- what is put in at a time that is not after the life
time_put : (life : ℕ) (row : Row) → row.time ≤ life → not_after life row ≡ true
time_put life row l = or_right (is_hidden row) _ (le-leb row.time life l)

-- a call that may be made leaves no time after the life, but for hidden pairs
answer_times : (p : Point) (call : Call) → is_proper call ≡ true → p.dictionary.life ≤ 2 ^ 64 - 1 → list_all (not_after p.dictionary.life) p.dictionary.pairs ≡ true → list_all (not_after (answer p call).point.dictionary.life) (answer p call).point.dictionary.pairs ≡ true
answer_times p (Look run) proper l a = a
answer_times p (Learn key phrase orig peak) proper l a =
    let had = p.dictionary in
    by_learn p.dictionary key phrase orig peak (λ d. list_all (not_after d.life) d.pairs ≡ true) a
    (λ freq. let put : Row = record { key = key; phrase = phrase; freq = freq; time = time_of_learn p.dictionary } in
    times_later p.dictionary.life (min (p.dictionary.life + 1) (2 ^ 64 - 1)) (put_row put p.dictionary.pairs) (omega arith) (all_put (not_after p.dictionary.life) put p.dictionary.pairs (time_put p.dictionary.life put (omega arith)) a))
answer_times p (Forget key phrase) proper l a = by_forget p.dictionary key phrase (λ o. list_all (not_after o.left.life) o.left.pairs ≡ true) (λ _. a) (λ _. all_kept (not_after p.dictionary.life) (λ row. not (is_pair_of key phrase row)) p.dictionary.pairs a)
answer_times p (Hide key phrase) proper l a =
    let pair = and_parts (is_pair key phrase) (can_hide key) proper in
    by_hidden p.dictionary key phrase (λ d. list_all (not_after d.life) d.pairs ≡ true) a
    (λ freq. let put : Row = record { key = key; phrase = phrase; freq = freq; time = hidden_time } in
    all_put (not_after p.dictionary.life) put p.dictionary.pairs (or_left _ (nat_le hidden_time p.dictionary.life) (and_from (can_hide key) true pair.1 refl)) a)
answer_times p Freeze proper l a = a
answer_times p (Install number) proper l a = a

-- a legal history leaves no time after the life, but for hidden pairs
pub after_times : (p : Point) (h : List Entry) → is_legal p h ≡ true → p.dictionary.life ≤ 2 ^ 64 - 1 → list_all (λ row. is_hidden row || nat_le row.time p.dictionary.life) p.dictionary.pairs ≡ true → list_all (λ row. is_hidden row || nat_le row.time (after p h).dictionary.life) (after p h).dictionary.pairs ≡ true
after_times p [] legal l a = a
after_times p (e ∷ h) legal l a = let parts = legal_parts p e h legal in after_times (answer p e.call).point h parts.2 (answer_life p e.call l).1 (answer_times p e.call parts.0 l a)

-- as many replies as calls
length_kept : (b : Bool) (r : Reply) (call : Call) (rs : List Reply) (calls : List Call) → length rs ≡ length calls → length (cond b (r ∷ rs) rs) ≡ length (cond b (call ∷ calls) calls)
length_kept true r call rs calls e = omega arith
length_kept false r call rs calls e = e

-- a test before a list, under a map
map_kept : (b : Bool) (e : Entry) (es : List Entry) → map (λ (x : Entry). x.call) (cond b (e ∷ es) es) ≡ cond b (e.call ∷ map (λ (x : Entry). x.call) es) (map (λ (x : Entry). x.call) es)
map_kept true e es = refl
map_kept false e es = refl

-- a number gets as many replies as it made calls
pub replies_counted : (p : Point) (h : List Entry) (who : ℕ) → length (replies p h who) ≡ length (calls_of h who)
replies_counted p [] who = refl
replies_counted p (e ∷ h) who =
    length_kept (eqb e.who who) (answer p e.call).reply e.call (replies (answer p e.call).point h who) (calls_of h who) (replies_counted (answer p e.call).point h who)
    ∙ sym (ap length (map_kept (eqb e.who who) e (filter (λ (x : Entry). eqb x.who who) h)))
