-- What a learn and a forget change.
use Rattle.std.proofs.Common.{◌≡◌, ◌↔◌, ◌⊎◌, inl, inr, ⊎_elim, ℕ, ◌+◌, ◌-◌, ◌^◌, ◌≤◌, ◌<◌, min, max, true, false, List, length, refl, ap, sym, ◌∙◌, cond, subst, leb, if◌then◌else◌, ◌==◌, Option, Some, None, is_some, arith}
use Rattle.std.proofs.lemmas.Bool.{and_right, eqb-true, false_from_ne_true, cond_both, cond-true, cond-false, lt-leb, leb-true, leb-false, cases_Bool, true≢false}
use Rattle.chew_spec_syllable.specs.Row.{Row}
use Rattle.chew_spec_dictionary.specs.Call.{Learned, Full, Forgot, NotThere}
use Rattle.chew_spec_dictionary.specs.HiddenPairs.{can_hide, is_hidden, shown_rows}
use Rattle.chew_spec_dictionary.specs.System.{row_of, peak_of}
use Rattle.chew_spec_dictionary.specs.Frequency.{update}
use Rattle.chew_spec_dictionary.specs.Dictionary.{Dictionary, Outcome, learn, learned, unless_full, first_freq, held_freq, relearned_freq, time_of_learn, forget, without}
use Rattle.chew_spec_dictionary.proofs.Pairs.{key_found, put_found, put_others, other_pair, without_gone, without_others}

-- a learn of a pair that is held
pub learn_of_held : (had : Dictionary) (key phrase : List ℕ) (orig peak : ℕ) (row : Row) → row_of had.pairs key phrase ≡ Some row → learn had key phrase orig peak ≡ learned had key phrase (held_freq had row orig peak)
unfolding learn
learn_of_held had key phrase orig peak row e = rw e refl

-- a learn of a pair that is not held
pub learn_of_new : (had : Dictionary) (key phrase : List ℕ) (orig peak : ℕ) → row_of had.pairs key phrase ≡ None → learn had key phrase orig peak ≡ unless_full had (learned had key phrase (first_freq orig))
unfolding learn
learn_of_new had key phrase orig peak e = rw e refl

-- an option is something or nothing
pub held_or_not : (o : Option Row) → ((row : Row) × (o ≡ Some row)) ⊎ (o ≡ None)
held_or_not None = inr refl
held_or_not (Some row) = inl (row, refl)

-- a learn is Full and changes nothing, or gives the pair a frequency
pub learn_cases : (had : Dictionary) (key phrase : List ℕ) (orig peak : ℕ) →
    ((row_of had.pairs key phrase ≡ None) × (had.cap ≤ length had.pairs) × (learn had key phrase orig peak ≡ record { left = had; reply = Full }))
    ⊎ ((freq : ℕ) × (learn had key phrase orig peak ≡ learned had key phrase freq) × ((row_of had.pairs key phrase ≡ None) × (had.cap ≤ length had.pairs) → ⊥))
learn_cases had key phrase orig peak = ⊎_elim
    (λ (h : (row : Row) × (row_of had.pairs key phrase ≡ Some row)). inr (held_freq had h.0 orig peak, learn_of_held had key phrase orig peak h.0 h.1, λ n. true≢false (ap is_some (sym h.1 ∙ n.0))))
    (λ (n : row_of had.pairs key phrase ≡ None). ⊎_elim
    (λ (t : leb had.cap (length had.pairs) ≡ true). inl (n, leb-true _ _ t, learn_of_new had key phrase orig peak n ∙ cond-true _ _ _ t))
    (λ (f : leb had.cap (length had.pairs) ≡ false). inr (first_freq orig, learn_of_new had key phrase orig peak n ∙ cond-false _ _ _ f, λ b. let less = leb-false had.cap (length had.pairs) f in omega arith))
    (cases_Bool (leb had.cap (length had.pairs))))
    (held_or_not (row_of had.pairs key phrase))

-- the reply to a learn of a pair that is held tells its new frequency
told_held : (had : Dictionary) (key phrase : List ℕ) (orig peak freq : ℕ) (row : Row) → row_of had.pairs key phrase ≡ Some row → held_freq had row orig peak ≡ freq → (learn had key phrase orig peak).reply ≡ Learned freq (time_of_learn had)
told_held had key phrase orig peak freq row e f = ap (λ (o : Outcome). o.reply) (learn_of_held had key phrase orig peak row e) ∙ ap (λ (n : ℕ). Learned n (time_of_learn had)) f

-- a pair that is held and not hidden gets the updated frequency
pub reply_of_held : (had : Dictionary) (key phrase : List ℕ) (orig peak : ℕ) (row : Row) → row_of had.pairs key phrase ≡ Some row → is_hidden row ≡ false → (learn had key phrase orig peak).reply ≡ Learned (update row.freq orig (max (max orig peak) (peak_of (shown_rows had.pairs) key)) (had.life - row.time)) (min had.life (2 ^ 64 - 2))
reply_of_held had key phrase orig peak row e h =
    told_held had key phrase orig peak _ row e
    (cond-false (is_hidden row) (first_freq orig) (relearned_freq had row orig peak) h
    ∙ ap (λ (k : List ℕ). update row.freq orig (max (max orig peak) (peak_of (shown_rows had.pairs) k)) (had.life - row.time)) (key_found had.pairs key phrase row e))

-- a pair that is hidden gets the frequency of a new one
pub reply_of_hidden : (had : Dictionary) (key phrase : List ℕ) (orig peak : ℕ) (row : Row) → row_of had.pairs key phrase ≡ Some row → is_hidden row ≡ true → (learn had key phrase orig peak).reply ≡ Learned (if orig == 0 then 1 else orig) (min had.life (2 ^ 64 - 2))
reply_of_hidden had key phrase orig peak row e h = told_held had key phrase orig peak _ row e (cond-true (is_hidden row) (first_freq orig) (relearned_freq had row orig peak) h)

-- a new pair gets the system's frequency, or 1
pub reply_of_new : (had : Dictionary) (key phrase : List ℕ) (orig peak : ℕ) → row_of had.pairs key phrase ≡ None → length had.pairs < had.cap → (learn had key phrase orig peak).reply ≡ Learned (if orig == 0 then 1 else orig) (min had.life (2 ^ 64 - 2))
reply_of_new had key phrase orig peak n less = ap (λ (o : Outcome). o.reply) (learn_of_new had key phrase orig peak n ∙ cond-false _ _ _ (lt-leb had.cap (length had.pairs) less))

-- what learning gave a frequency answers and leaves is no Full
not_full : (had : Dictionary) (key phrase : List ℕ) (orig peak freq : ℕ) → learn had key phrase orig peak ≡ learned had key phrase freq → (learn had key phrase orig peak).reply ≡ Full → ⊥
not_full had key phrase orig peak freq e f = told (sym (ap (λ (o : Outcome). o.reply) e) ∙ f)
  where
    told : Learned freq (time_of_learn had) ≡ Full → ⊥
    told q = cc

-- Full comes exactly where a new pair finds the map full
pub full_where : (had : Dictionary) (key phrase : List ℕ) (orig peak : ℕ) → ((learn had key phrase orig peak).reply ≡ Full) ↔ ((row_of had.pairs key phrase ≡ None) × (had.cap ≤ length had.pairs))
full_where had key phrase orig peak = ⊎_elim
    (λ (f : (row_of had.pairs key phrase ≡ None) × (had.cap ≤ length had.pairs) × (learn had key phrase orig peak ≡ record { left = had; reply = Full })). (λ _. (f.0, f.1), λ _. ap (λ (o : Outcome). o.reply) f.2))
    (λ (l : (freq : ℕ) × (learn had key phrase orig peak ≡ learned had key phrase freq) × ((row_of had.pairs key phrase ≡ None) × (had.cap ≤ length had.pairs) → ⊥)). (λ r. absurd (not_full had key phrase orig peak l.0 l.1 r), λ n. absurd (l.2 n)))
    (learn_cases had key phrase orig peak)

-- Full leaves all as it was
pub full_same : (had : Dictionary) (key phrase : List ℕ) (orig peak : ℕ) → (learn had key phrase orig peak).reply ≡ Full → (learn had key phrase orig peak).left ≡ had
full_same had key phrase orig peak r = ⊎_elim
    (λ (f : (row_of had.pairs key phrase ≡ None) × (had.cap ≤ length had.pairs) × (learn had key phrase orig peak ≡ record { left = had; reply = Full })). ap (λ (o : Outcome). o.left) f.2)
    (λ (l : (freq : ℕ) × (learn had key phrase orig peak ≡ learned had key phrase freq) × ((row_of had.pairs key phrase ≡ None) × (had.cap ≤ length had.pairs) → ⊥)). absurd (not_full had key phrase orig peak l.0 l.1 r))
    (learn_cases had key phrase orig peak)

-- a reply Learned tells what learning gave
learned_where : (had : Dictionary) (key phrase : List ℕ) (orig peak freq time : ℕ) → (learn had key phrase orig peak).reply ≡ Learned freq time → (learn had key phrase orig peak ≡ learned had key phrase freq) × (time ≡ time_of_learn had)
learned_where had key phrase orig peak freq time r = ⊎_elim
    (λ (f : (row_of had.pairs key phrase ≡ None) × (had.cap ≤ length had.pairs) × (learn had key phrase orig peak ≡ record { left = had; reply = Full })). absurd (told (sym (ap (λ (o : Outcome). o.reply) f.2) ∙ r)))
    (λ (l : (freq : ℕ) × (learn had key phrase orig peak ≡ learned had key phrase freq) × ((row_of had.pairs key phrase ≡ None) × (had.cap ≤ length had.pairs) → ⊥)).
    let same : Learned l.0 (time_of_learn had) ≡ Learned freq time = sym (ap (λ (o : Outcome). o.reply) l.1) ∙ r in
    let freqs : l.0 ≡ freq = cc in
    let times : time ≡ time_of_learn had = cc in
    (l.1 ∙ ap (learned had key phrase) freqs, times))
    (learn_cases had key phrase orig peak)
  where
    told : Full ≡ Learned freq time → ⊥
    told q = cc

-- the pair that was learnt has the frequency and the time of the reply
pub pair_learned : (had : Dictionary) (key phrase : List ℕ) (orig peak freq time : ℕ) → (learn had key phrase orig peak).reply ≡ Learned freq time → row_of (learn had key phrase orig peak).left.pairs key phrase ≡ Some (record { key = key; phrase = phrase; freq = freq; time = time })
pair_learned had key phrase orig peak freq time r =
    let l = learned_where had key phrase orig peak freq time r in
    ap (λ (o : Outcome). row_of o.left.pairs key phrase) l.0
    ∙ put_found (record { key = key; phrase = phrase; freq = freq; time = time_of_learn had }) had.pairs
    ∙ ap (λ (t : ℕ). let row : Row = record { key = key; phrase = phrase; freq = freq; time = t } in Some row) (sym l.1)

-- the time of a learn is not that of a hidden pair
not_hidden_time : (life : ℕ) → (min life (2 ^ 64 - 2) == 2 ^ 64 - 1) ≡ false
not_hidden_time life = false_from_ne_true _ (λ t. let e = eqb-true (min life (2 ^ 64 - 2)) (2 ^ 64 - 1) t in omega arith)

-- a learn that is not Full leaves the pair, and leaves it not hidden
pub shown_learned : (had : Dictionary) (key phrase : List ℕ) (orig peak : ℕ) (row : Row) → ((learn had key phrase orig peak).reply ≡ Full → ⊥) → row_of (learn had key phrase orig peak).left.pairs key phrase ≡ Some row → is_hidden row ≡ false
shown_learned had key phrase orig peak row r e = ⊎_elim
    (λ (f : (row_of had.pairs key phrase ≡ None) × (had.cap ≤ length had.pairs) × (learn had key phrase orig peak ≡ record { left = had; reply = Full })). absurd (r (ap (λ (o : Outcome). o.reply) f.2)))
    (λ (l : (freq : ℕ) × (learn had key phrase orig peak ≡ learned had key phrase freq) × ((row_of had.pairs key phrase ≡ None) × (had.cap ≤ length had.pairs) → ⊥)).
    let put : Row = record { key = key; phrase = phrase; freq = l.0; time = time_of_learn had } in
    let found : Some put ≡ Some row = sym (put_found put had.pairs) ∙ sym (ap (λ (o : Outcome). row_of o.left.pairs key phrase) l.1) ∙ e in
    let same : put ≡ row = cc in
    ap is_hidden (sym same) ∙ and_right (can_hide key) _ (not_hidden_time had.life))
    (learn_cases had key phrase orig peak)

-- a fact that holds where a learn is Full and where it gives a frequency
pub by_learn : (had : Dictionary) (key phrase : List ℕ) (orig peak : ℕ) (P : Dictionary → Type 0) → P had → ((freq : ℕ) → P (learned had key phrase freq).left) → P (learn had key phrase orig peak).left
by_learn had key phrase orig peak P full gave = ⊎_elim
    (λ (f : (row_of had.pairs key phrase ≡ None) × (had.cap ≤ length had.pairs) × (learn had key phrase orig peak ≡ record { left = had; reply = Full })). subst (λ (o : Outcome). P o.left) (sym f.2) full)
    (λ (l : (freq : ℕ) × (learn had key phrase orig peak ≡ learned had key phrase freq) × ((row_of had.pairs key phrase ≡ None) × (had.cap ≤ length had.pairs) → ⊥)). subst (λ (o : Outcome). P o.left) (sym l.1) (gave l.0))
    (learn_cases had key phrase orig peak)

-- a learn changes no other pair
pub others_learned : (had : Dictionary) (key phrase : List ℕ) (orig peak : ℕ) (k p : List ℕ) → (key ≡ k → phrase ≡ p → ⊥) → row_of (learn had key phrase orig peak).left.pairs k p ≡ row_of had.pairs k p
others_learned had key phrase orig peak k p other = by_learn had key phrase orig peak (λ d. row_of d.pairs k p ≡ row_of had.pairs k p) refl (λ freq. let row : Row = record { key = key; phrase = phrase; freq = freq; time = time_of_learn had } in put_others row had.pairs k p (other_pair row k p other))

-- a learn that is not Full raises the life by one
pub life_learned : (had : Dictionary) (key phrase : List ℕ) (orig peak : ℕ) → ((learn had key phrase orig peak).reply ≡ Full → ⊥) → (learn had key phrase orig peak).left.life ≡ min (had.life + 1) (2 ^ 64 - 1)
life_learned had key phrase orig peak r = ⊎_elim
    (λ (f : (row_of had.pairs key phrase ≡ None) × (had.cap ≤ length had.pairs) × (learn had key phrase orig peak ≡ record { left = had; reply = Full })). absurd (r (ap (λ (o : Outcome). o.reply) f.2)))
    (λ (l : (freq : ℕ) × (learn had key phrase orig peak ≡ learned had key phrase freq) × ((row_of had.pairs key phrase ≡ None) × (had.cap ≤ length had.pairs) → ⊥)). ap (λ (o : Outcome). o.left.life) l.1)
    (learn_cases had key phrase orig peak)

-- a learn keeps the cap
pub cap_learned : (had : Dictionary) (key phrase : List ℕ) (orig peak : ℕ) → (learn had key phrase orig peak).left.cap ≡ had.cap
cap_learned had key phrase orig peak = by_learn had key phrase orig peak (λ d. d.cap ≡ had.cap) refl (λ freq. refl)

-- a forget of a pair that is not held, and of one that is
pub forget_cases : (had : Dictionary) (key phrase : List ℕ) →
    ((row_of had.pairs key phrase ≡ None) × (forget had key phrase ≡ record { left = had; reply = NotThere }))
    ⊎ ((is_some (row_of had.pairs key phrase) ≡ true) × (forget had key phrase ≡ record { left = record had { pairs = without key phrase had.pairs }; reply = Forgot }))
unfolding forget
forget_cases had key phrase = ⊎_elim
    (λ (h : (row : Row) × (row_of had.pairs key phrase ≡ Some row)). inr (ap is_some h.1, cond-true _ _ _ (ap is_some h.1)))
    (λ (n : row_of had.pairs key phrase ≡ None). inl (n, cond-false _ _ _ (ap is_some n)))
    (held_or_not (row_of had.pairs key phrase))

-- a fact that holds of what both kinds of forget answer and leave
pub by_forget : (had : Dictionary) (key phrase : List ℕ) (P : Outcome → Type 0) → (row_of had.pairs key phrase ≡ None → P (record { left = had; reply = NotThere })) → (is_some (row_of had.pairs key phrase) ≡ true → P (record { left = record had { pairs = without key phrase had.pairs }; reply = Forgot })) → P (forget had key phrase)
by_forget had key phrase P none some = ⊎_elim
    (λ (n : (row_of had.pairs key phrase ≡ None) × (forget had key phrase ≡ record { left = had; reply = NotThere })). subst P (sym n.1) (none n.0))
    (λ (s : (is_some (row_of had.pairs key phrase) ≡ true) × (forget had key phrase ≡ record { left = record had { pairs = without key phrase had.pairs }; reply = Forgot })). subst P (sym s.1) (some s.0))
    (forget_cases had key phrase)

-- the two replies differ
forgot_not : Forgot ≡ NotThere → ⊥
forgot_not e = cc

-- NotThere comes exactly where the pair is not held
pub not_there_where : (had : Dictionary) (key phrase : List ℕ) → ((forget had key phrase).reply ≡ NotThere) ↔ (row_of had.pairs key phrase ≡ None)
not_there_where had key phrase = by_forget had key phrase (λ o. (o.reply ≡ NotThere) ↔ (row_of had.pairs key phrase ≡ None))
    (λ n. (λ _. n, λ _. refl))
    (λ s. (λ r. absurd (forgot_not r), λ n. absurd (true≢false (sym s ∙ ap is_some n))))

-- Forgot comes where the pair is held
pub forgot_where : (had : Dictionary) (key phrase : List ℕ) (row : Row) → row_of had.pairs key phrase ≡ Some row → (forget had key phrase).reply ≡ Forgot
forgot_where had key phrase row e = by_forget had key phrase (λ o. o.reply ≡ Forgot)
    (λ n. absurd (true≢false (ap is_some (sym e ∙ n))))
    (λ s. refl)

-- NotThere leaves all as it was
pub not_there_same : (had : Dictionary) (key phrase : List ℕ) → (forget had key phrase).reply ≡ NotThere → (forget had key phrase).left ≡ had
not_there_same had key phrase = by_forget had key phrase (λ o. o.reply ≡ NotThere → o.left ≡ had)
    (λ n r. refl)
    (λ s r. absurd (forgot_not r))

-- after a forget the pair is not held
pub gone_forgot : (had : Dictionary) (key phrase : List ℕ) → row_of (forget had key phrase).left.pairs key phrase ≡ None
gone_forgot had key phrase = by_forget had key phrase (λ o. row_of o.left.pairs key phrase ≡ None) (λ n. n) (λ s. without_gone key phrase had.pairs)

-- a forget changes no other pair
pub others_forgot : (had : Dictionary) (key phrase k p : List ℕ) → (key ≡ k → phrase ≡ p → ⊥) → row_of (forget had key phrase).left.pairs k p ≡ row_of had.pairs k p
others_forgot had key phrase k p other = by_forget had key phrase (λ o. row_of o.left.pairs k p ≡ row_of had.pairs k p) (λ n. refl) (λ s. without_others key phrase had.pairs k p other)

-- a forget keeps the life
pub life_forgot : (had : Dictionary) (key phrase : List ℕ) → (forget had key phrase).left.life ≡ had.life
life_forgot had key phrase = by_forget had key phrase (λ o. o.left.life ≡ had.life) (λ n. refl) (λ s. refl)

-- a forget keeps the cap
pub cap_forgot : (had : Dictionary) (key phrase : List ℕ) → (forget had key phrase).left.cap ≡ had.cap
cap_forgot had key phrase = by_forget had key phrase (λ o. o.left.cap ≡ had.cap) (λ n. refl) (λ s. refl)

-- a fact that holds of what is left where a learn is Full, where the pair is held, and where it is new
pub by_kind : (had : Dictionary) (key phrase : List ℕ) (orig peak : ℕ) (P : Dictionary → Type 0) →
    P had
    → ((row : Row) → row_of had.pairs key phrase ≡ Some row → P (learned had key phrase (held_freq had row orig peak)).left)
    → (row_of had.pairs key phrase ≡ None → length had.pairs < had.cap → P (learned had key phrase (first_freq orig)).left)
    → P (learn had key phrase orig peak).left
by_kind had key phrase orig peak P full held new = ⊎_elim
    (λ (h : (row : Row) × (row_of had.pairs key phrase ≡ Some row)). subst (λ (o : Outcome). P o.left) (sym (learn_of_held had key phrase orig peak h.0 h.1)) (held h.0 h.1))
    (λ (n : row_of had.pairs key phrase ≡ None). subst (λ (o : Outcome). P o.left) (sym (learn_of_new had key phrase orig peak n)) (cond_both (leb had.cap (length had.pairs)) (record { left = had; reply = Full }) (learned had key phrase (first_freq orig)) (λ o. P o.left)
    (λ t. full)
    (λ f. new n (leb-false had.cap (length had.pairs) f))))
    (held_or_not (row_of had.pairs key phrase))
