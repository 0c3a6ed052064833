-- Bounds of an update of a frequency.
use Rattle.std.proofs.Common.{◌≡◌, ℕ, ◌+◌, ◌-◌, ◌/◌, ◌≤◌, ◌<◌, min, max, cond, ltb, leb, refl, ap, ◌∙◌, arith}
use Rattle.std.proofs.lemmas.Bool.{cond_both, cond-true, cond-false, ltb-false, lt-ltb, le-ltb, le-leb, lt-leb}
use Rattle.chew_spec_dictionary.specs.Frequency.{update, rise, fall}

-- a rise is a rise
rise_more : (freq orig greatest part step : ℕ) → 0 < step → freq < rise freq orig greatest part step
rise_more freq orig greatest part step s = cond_both (leb greatest freq) _ _ (λ f. freq < f) (λ _. omega arith) (λ _. omega arith)

-- a fall is not below orig
fall_least : (freq orig : ℕ) → orig ≤ fall freq orig
fall_least freq orig = omega arith

-- a fall is not above both
fall_most : (freq orig : ℕ) → fall freq orig ≤ max freq orig
fall_most freq orig = omega arith

-- no update is above the greatest frequency
pub update_most : (freq orig greatest ticks : ℕ) → update freq orig greatest ticks ≤ 99_999_999
unfolding update
update_most freq orig greatest ticks = omega arith

-- an update before many learns is a rise, up to the greatest frequency
pub update_rises : (freq orig greatest ticks : ℕ) → ticks < 50_000 → freq < 99_999_999 → freq < update freq orig greatest ticks
unfolding update
update_rises freq orig greatest ticks early less =
    cond_both (ltb ticks 4000) (rise freq orig greatest 5 10) (cond (ltb ticks 50_000) (rise freq orig greatest 10 5) (fall freq orig)) (λ f. freq < min 99_999_999 f)
    (λ _. let m = rise_more freq orig greatest 5 10 (omega arith) in above less m)
    (λ _. cond_both (ltb ticks 50_000) (rise freq orig greatest 10 5) (fall freq orig) (λ f. freq < min 99_999_999 f)
    (λ _. above less (rise_more freq orig greatest 10 5 (omega arith)))
    (λ n. absurd (let far = ltb-false ticks 50_000 n in omega arith)))
  where
    above : {a : ℕ} → freq < 99_999_999 → freq < a → freq < min 99_999_999 a
    above l m = omega arith

-- an update after many learns is a fall
pub update_late : (freq orig greatest ticks : ℕ) → 50_000 ≤ ticks → update freq orig greatest ticks ≡ min 99_999_999 (fall freq orig)
unfolding update
update_late freq orig greatest ticks far = rw (le-ltb ticks 4000 (omega arith), le-ltb ticks 50_000 far) refl

-- an update after many learns is not below orig
pub update_late_least : (freq orig greatest ticks : ℕ) → 50_000 ≤ ticks → orig ≤ 99_999_999 → orig ≤ update freq orig greatest ticks
update_late_least freq orig greatest ticks far small = rw (update_late freq orig greatest ticks far) (let l = fall_least freq orig in omega arith)

-- an update after many learns is not above both
pub update_late_most : (freq orig greatest ticks : ℕ) → 50_000 ≤ ticks → update freq orig greatest ticks ≤ max freq orig
update_late_most freq orig greatest ticks far = rw (update_late freq orig greatest ticks far) (let l = fall_most freq orig in omega arith)

-- an update of a frequency that is not below orig isn't either
pub update_least : (freq orig greatest ticks : ℕ) → orig ≤ freq → orig ≤ 99_999_999 → orig ≤ update freq orig greatest ticks
unfolding update
update_least freq orig greatest ticks more small =
    cond_both (ltb ticks 4000) (rise freq orig greatest 5 10) (cond (ltb ticks 50_000) (rise freq orig greatest 10 5) (fall freq orig)) (λ f. orig ≤ min 99_999_999 f)
    (λ _. above (let m = rise_more freq orig greatest 5 10 (omega arith) in omega arith))
    (λ _. cond_both (ltb ticks 50_000) (rise freq orig greatest 10 5) (fall freq orig) (λ f. orig ≤ min 99_999_999 f)
    (λ _. above (let m = rise_more freq orig greatest 10 5 (omega arith) in omega arith))
    (λ _. above (fall_least freq orig)))
  where
    above : {a : ℕ} → orig ≤ a → orig ≤ min 99_999_999 a
    above m = omega arith

-- an update before 4000 learns is a quick rise
pub update_soon : (freq orig greatest ticks : ℕ) → ticks < 4000 → update freq orig greatest ticks ≡ min 99_999_999 (rise freq orig greatest 5 10)
unfolding update
update_soon freq orig greatest ticks l = rw (lt-ltb ticks 4000 l) refl

-- an update between 4000 and 50,000 learns is a slow rise
pub update_later : (freq orig greatest ticks : ℕ) → 4000 ≤ ticks → ticks < 50_000 → update freq orig greatest ticks ≡ min 99_999_999 (rise freq orig greatest 10 5)
unfolding update
update_later freq orig greatest ticks l m = rw (le-ltb ticks 4000 l, lt-ltb ticks 50_000 m) refl

-- a rise of a frequency that has met the greatest
rise_met : (freq orig greatest part step : ℕ) → greatest ≤ freq → rise freq orig greatest part step ≡ freq + min ((greatest - orig) / part + 1) step
rise_met freq orig greatest part step l = cond-true (leb greatest freq) _ _ (le-leb greatest freq l)

-- a rise of a frequency below the greatest
rise_below : (freq orig greatest part step : ℕ) → freq < greatest → rise freq orig greatest part step ≡ freq + max ((greatest - orig) / part + 1) step
rise_below freq orig greatest part step l = cond-false (leb greatest freq) _ _ (lt-leb greatest freq l)

-- soon, the greatest met
pub soon_met : (freq orig greatest ticks : ℕ) → ticks < 4000 → greatest ≤ freq → update freq orig greatest ticks ≡ min 99_999_999 (freq + min ((greatest - orig) / 5 + 1) 10)
soon_met freq orig greatest ticks l m = update_soon freq orig greatest ticks l ∙ ap (min 99_999_999) (rise_met freq orig greatest 5 10 m)

-- soon, below the greatest
pub soon_below : (freq orig greatest ticks : ℕ) → ticks < 4000 → freq < greatest → update freq orig greatest ticks ≡ min 99_999_999 (freq + max ((greatest - orig) / 5 + 1) 10)
soon_below freq orig greatest ticks l m = update_soon freq orig greatest ticks l ∙ ap (min 99_999_999) (rise_below freq orig greatest 5 10 m)

-- later, the greatest met
pub later_met : (freq orig greatest ticks : ℕ) → 4000 ≤ ticks → ticks < 50_000 → greatest ≤ freq → update freq orig greatest ticks ≡ min 99_999_999 (freq + min ((greatest - orig) / 10 + 1) 5)
later_met freq orig greatest ticks k l m = update_later freq orig greatest ticks k l ∙ ap (min 99_999_999) (rise_met freq orig greatest 10 5 m)

-- later, below the greatest
pub later_below : (freq orig greatest ticks : ℕ) → 4000 ≤ ticks → ticks < 50_000 → freq < greatest → update freq orig greatest ticks ≡ min 99_999_999 (freq + max ((greatest - orig) / 10 + 1) 5)
later_below freq orig greatest ticks k l m = update_later freq orig greatest ticks k l ∙ ap (min 99_999_999) (rise_below freq orig greatest 10 5 m)
