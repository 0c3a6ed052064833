-- What a hide answers and leaves.
use Rattle.std.proofs.Common.{◌≡◌, ◌↔◌, ◌⊎◌, inl, inr, ⊎_elim, ℕ, ◌-◌, ◌^◌, ◌≤◌, ◌<◌, ◌&&◌, Bool, true, false, not, List, length, refl, ap, sym, ◌∙◌, subst, leb, nat_le, if◌then◌else◌, ◌==◌, Option, Some, None, Contains, is_some, arith}
use Rattle.std.proofs.lemmas.Bool.{false_from_ne_true, and_parts, and_from, cond-true, cond-false, lt-leb, le-leb, leb-true, leb-false, cases_Bool, true≢false, eq-eqb, eqb-true, not-true}
use Rattle.chew_spec_syllable.specs.Row.{Row}
use Rattle.chew_spec_dictionary.specs.Call.{Full, NotThere, Hid}
use Rattle.chew_spec_dictionary.specs.HiddenPairs.{can_hide, hidden_time, is_hidden, shown_rows}
use Rattle.chew_spec_dictionary.specs.System.{row_of}
use Rattle.chew_spec_dictionary.specs.Dictionary.{Dictionary, Outcome, hid, hide, unless_full}
use Rattle.chew_spec_dictionary.proofs.Pairs.{put_found, put_others, other_pair}
use Rattle.chew_spec_dictionary.proofs.Learning.{held_or_not}

-- a pair is hidden where its key has two syllables and its time is the greatest
pub hidden_where : (row : Row) → (is_hidden row ≡ true) ↔ ((2 ≤ length row.key) × (row.time ≡ 2 ^ 64 - 1))
hidden_where row = (
  λ h. let both = and_parts (can_hide row.key) (row.time == hidden_time) h in (leb-true 2 (length row.key) both.0, eqb-true row.time (2 ^ 64 - 1) both.1),
  λ h. and_from (can_hide row.key) (row.time == hidden_time) (le-leb 2 (length row.key) h.0) (eq-eqb row.time (2 ^ 64 - 1) h.1),
)

-- a pair of a single syllable is not hidden
pub single_shown : (row : Row) → length row.key < 2 → is_hidden row ≡ false
single_shown row l = false_from_ne_true _ (λ t. let two = (hidden_where row).0 t in omega (arith, l, two.0))

-- a hide of a pair that is held
pub hide_of_held : (had : Dictionary) (key phrase : List ℕ) (row : Row) (b : Bool) → row_of had.pairs key phrase ≡ Some row → is_hidden row ≡ b → hide had key phrase ≡ (if b then record { left = had; reply = NotThere } else hid had key phrase row.freq)
unfolding hide
hide_of_held had key phrase row b e h = rw e (rw h refl)

-- a hide of a pair that is not held
pub hide_of_new : (had : Dictionary) (key phrase : List ℕ) → row_of had.pairs key phrase ≡ None → hide had key phrase ≡ unless_full had (hid had key phrase 0)
unfolding hide
hide_of_new had key phrase e = rw e refl

-- a fact that holds of what each kind of hide answers and leaves: of a pair that is hidden, of one that is held and is
-- not, of a new one that finds the map full, and of a new one that finds room
pub by_hide : (had : Dictionary) (key phrase : List ℕ) (P : Outcome → Type 0) →
    ((row : Row) → row_of had.pairs key phrase ≡ Some row → is_hidden row ≡ true → P (record { left = had; reply = NotThere }))
    → ((row : Row) → row_of had.pairs key phrase ≡ Some row → is_hidden row ≡ false → P (hid had key phrase row.freq))
    → (row_of had.pairs key phrase ≡ None → had.cap ≤ length had.pairs → P (record { left = had; reply = Full }))
    → (row_of had.pairs key phrase ≡ None → length had.pairs < had.cap → P (hid had key phrase 0))
    → P (hide had key phrase)
by_hide had key phrase P hidden held full new = ⊎_elim
    (λ (h : (row : Row) × (row_of had.pairs key phrase ≡ Some row)). ⊎_elim
    (λ (t : is_hidden h.0 ≡ true). subst P (sym (hide_of_held had key phrase h.0 true h.1 t)) (hidden h.0 h.1 t))
    (λ (f : is_hidden h.0 ≡ false). subst P (sym (hide_of_held had key phrase h.0 false h.1 f)) (held h.0 h.1 f))
    (cases_Bool (is_hidden h.0)))
    (λ (n : row_of had.pairs key phrase ≡ None). ⊎_elim
    (λ (t : leb had.cap (length had.pairs) ≡ true). subst P (sym (hide_of_new had key phrase n ∙ cond-true _ _ _ t)) (full n (leb-true _ _ t)))
    (λ (f : leb had.cap (length had.pairs) ≡ false). subst P (sym (hide_of_new had key phrase n ∙ cond-false _ _ _ f)) (new n (leb-false _ _ f)))
    (cases_Bool (leb had.cap (length had.pairs))))
    (held_or_not (row_of had.pairs key phrase))

-- something is not nothing
pub some_not_none : (row : Row) → Some row ≡ None → ⊥
some_not_none row e = cc

-- the replies differ
hid_not_there : Hid ≡ NotThere → ⊥
hid_not_there e = cc

hid_not_full : Hid ≡ Full → ⊥
hid_not_full e = cc

full_not_there : Full ≡ NotThere → ⊥
full_not_there e = cc

-- one pair has one row
same_row : (o : Option Row) (row other : Row) → o ≡ Some row → o ≡ Some other → row ≡ other
same_row o row other e f = let same : Some row ≡ Some other = sym e ∙ f in cc

-- NotThere comes exactly where the pair is hidden
pub not_there_hidden : (had : Dictionary) (key phrase : List ℕ) → ((hide had key phrase).reply ≡ NotThere) ↔ ((row : Row) × (row_of had.pairs key phrase ≡ Some row) × (is_hidden row ≡ true))
not_there_hidden had key phrase = by_hide had key phrase (λ o. (o.reply ≡ NotThere) ↔ ((row : Row) × (row_of had.pairs key phrase ≡ Some row) × (is_hidden row ≡ true)))
    (λ row e h. (λ _. (row, e, h), λ _. refl))
    (λ row e h. (λ r. absurd (hid_not_there r), λ w. absurd (true≢false (sym w.2 ∙ ap is_hidden (same_row _ w.0 row w.1 e) ∙ h))))
    (λ n l. (λ r. absurd (full_not_there r), λ w. absurd (some_not_none w.0 (sym w.1 ∙ n))))
    (λ n l. (λ r. absurd (hid_not_there r), λ w. absurd (some_not_none w.0 (sym w.1 ∙ n))))

-- Full comes exactly where a new pair finds the map full
pub full_hidden : (had : Dictionary) (key phrase : List ℕ) → ((hide had key phrase).reply ≡ Full) ↔ ((row_of had.pairs key phrase ≡ None) × (had.cap ≤ length had.pairs))
full_hidden had key phrase = by_hide had key phrase (λ o. (o.reply ≡ Full) ↔ ((row_of had.pairs key phrase ≡ None) × (had.cap ≤ length had.pairs)))
    (λ row e h. (λ r. absurd (full_not_there (sym r)), λ w. absurd (some_not_none row (sym e ∙ w.0))))
    (λ row e h. (λ r. absurd (hid_not_full r), λ w. absurd (some_not_none row (sym e ∙ w.0))))
    (λ n l. (λ _. (n, l), λ _. refl))
    (λ n l. (λ r. absurd (hid_not_full r), λ w. absurd (omega (arith, l, w.1))))

-- a reply that is neither is Hid
pub hid_else : (had : Dictionary) (key phrase : List ℕ) → ((hide had key phrase).reply ≡ NotThere → ⊥) → ((hide had key phrase).reply ≡ Full → ⊥) → (hide had key phrase).reply ≡ Hid
hid_else had key phrase = by_hide had key phrase (λ o. (o.reply ≡ NotThere → ⊥) → (o.reply ≡ Full → ⊥) → o.reply ≡ Hid)
    (λ row e h a b. absurd (a refl)) (λ row e h a b. refl) (λ n l a b. absurd (b refl)) (λ n l a b. refl)

-- what is not Hid leaves all as it was
pub hide_same : (had : Dictionary) (key phrase : List ℕ) → ((hide had key phrase).reply ≡ Hid → ⊥) → (hide had key phrase).left ≡ had
hide_same had key phrase = by_hide had key phrase (λ o. (o.reply ≡ Hid → ⊥) → o.left ≡ had)
    (λ row e h r. refl) (λ row e h r. absurd (r refl)) (λ n l r. refl) (λ n l r. absurd (r refl))

-- a pair that was held keeps its frequency
pub held_hidden : (had : Dictionary) (key phrase : List ℕ) (row : Row) → row_of had.pairs key phrase ≡ Some row → (hide had key phrase).reply ≡ Hid → row_of (hide had key phrase).left.pairs key phrase ≡ Some (record { key = key; phrase = phrase; freq = row.freq; time = 2 ^ 64 - 1 })
held_hidden had key phrase row e = by_hide had key phrase (λ o. o.reply ≡ Hid → row_of o.left.pairs key phrase ≡ Some (record { key = key; phrase = phrase; freq = row.freq; time = 2 ^ 64 - 1 }))
    (λ other f h r. absurd (hid_not_there (sym r)))
    (λ other f h r. let same = same_row _ row other e f in
    put_found (record { key = key; phrase = phrase; freq = other.freq; time = 2 ^ 64 - 1 }) had.pairs
    ∙ ap (λ (x : Row). let put : Row = record { key = key; phrase = phrase; freq = x.freq; time = 2 ^ 64 - 1 } in Some put) (sym same))
    (λ n l r. absurd (hid_not_full (sym r)))
    (λ n l r. absurd (some_not_none row (sym e ∙ n)))

-- a pair that was not held is held now, with the frequency 0
pub new_hidden : (had : Dictionary) (key phrase : List ℕ) → row_of had.pairs key phrase ≡ None → (hide had key phrase).reply ≡ Hid → row_of (hide had key phrase).left.pairs key phrase ≡ Some (record { key = key; phrase = phrase; freq = 0; time = 2 ^ 64 - 1 })
new_hidden had key phrase n = by_hide had key phrase (λ o. o.reply ≡ Hid → row_of o.left.pairs key phrase ≡ Some (record { key = key; phrase = phrase; freq = 0; time = 2 ^ 64 - 1 }))
    (λ row e h r. absurd (some_not_none row (sym e ∙ n)))
    (λ row e h r. absurd (some_not_none row (sym e ∙ n)))
    (λ m l r. absurd (hid_not_full (sym r)))
    (λ m l r. put_found (record { key = key; phrase = phrase; freq = 0; time = 2 ^ 64 - 1 }) had.pairs)

-- a fact that holds of what is left where nothing changes, and where the pair is put in hidden
pub by_hidden : (had : Dictionary) (key phrase : List ℕ) (P : Dictionary → Type 0) → P had → ((freq : ℕ) → P (hid had key phrase freq).left) → P (hide had key phrase).left
by_hidden had key phrase P same put = by_hide had key phrase (λ o. P o.left) (λ row e h. same) (λ row e h. put row.freq) (λ n l. same) (λ n l. put 0)

-- a hide changes no other pair
pub others_hidden : (had : Dictionary) (key phrase k p : List ℕ) → (key ≡ k → phrase ≡ p → ⊥) → row_of (hide had key phrase).left.pairs k p ≡ row_of had.pairs k p
others_hidden had key phrase k p other = by_hidden had key phrase (λ d. row_of d.pairs k p ≡ row_of had.pairs k p) refl (λ freq. let row : Row = record { key = key; phrase = phrase; freq = freq; time = hidden_time } in put_others row had.pairs k p (other_pair row k p other))

-- a hide keeps the life
pub life_hidden : (had : Dictionary) (key phrase : List ℕ) → (hide had key phrase).left.life ≡ had.life
life_hidden had key phrase = by_hidden had key phrase (λ d. d.life ≡ had.life) refl (λ freq. refl)

-- a hide keeps the cap
pub cap_hidden : (had : Dictionary) (key phrase : List ℕ) → (hide had key phrase).left.cap ≡ had.cap
cap_hidden had key phrase = by_hidden had key phrase (λ d. d.cap ≡ had.cap) refl (λ freq. refl)
