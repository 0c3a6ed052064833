-- The runs of a buffer stand apart, from left to right.
use Rattle.std.specs.Prelude.{◌≡◌, ℕ, zero, suc, ◌+◌, ◌<◌, ◌≤◌, Bool, true, not, ◌&&◌, List, [], ◌∷◌, ◌++◌, drop, take, flat_map, length, slice_get, ◌==◌, nat_le, nat_lt, Contains, Some}
use Rattle.std.specs.List.{list_all}
use Rattle.std.proofs.Common.{refl, ap, subst, ◌∙◌, arith, eqb-true}
use Rattle.std.proofs.lemmas.Bool.{and_from, and_parts, cond_both, eqb-false, leb-true, le-leb, lt-ltb, ltb-true, ne_eqb, not_from_false}
use Rattle.std.proofs.lemmas.List.Concat.{flat_map-append}
use Rattle.std.proofs.lemmas.Option.{none-some, same_Some}
use Rattle.chew_spec_phrasing.proofs.Membership.{Contains-head, Contains-tail}
use Rattle.chew_spec_preedit.specs.Cell.{Cell, Sound, Symbol}
use Rattle.chew_spec_preedit.specs.PlacedRun.{PlacedRun, run_end, runs_from, runs_of, with_sound}
use Rattle.chew_spec_preedit.proofs.Kept.{list_all-join, list_all-weaker}
use Rattle.chew_spec_editor.specs.Invariant.{run_places}
use Rattle.chew_spec_editor.proofs.SoundPlaces.{range-all}

-- no run begins before the place, each has a syllable, and ends before the place before the next one
abbrev pub are_placed : ℕ → List PlacedRun → Bool
are_placed place [] = true
are_placed place (run ∷ runs) = nat_le place run.start && (nat_lt 0 (length run.codes) && are_placed (suc (run_end run)) runs)

pub placed-earlier : (place other : ℕ) (runs : List PlacedRun) → other ≤ place → are_placed place runs ≡ true → are_placed other runs ≡ true
placed-earlier place other [] l e = refl
placed-earlier place other (run ∷ runs) l e =
    let parts = and_parts (nat_le place run.start) _ e in
    let m = leb-true place run.start parts.0 in
    and_from (nat_le other run.start) _ (le-leb other run.start (omega arith)) parts.1

placed-with_sound : (place code : ℕ) (runs : List PlacedRun) → are_placed (suc place) runs ≡ true → are_placed place (with_sound place code runs) ≡ true
placed-with_sound place code [] e = and_from (nat_le place place) _ (le-leb place place (omega arith)) refl
placed-with_sound place code (run ∷ runs) e =
    let starts = and_parts (nat_le (suc place) run.start) _ e in
    let l = leb-true (suc place) run.start starts.0 in
    let some = and_parts (nat_lt 0 (length run.codes)) (are_placed (suc (run_end run)) runs) starts.1 in
    cond_both (run.start == suc place) (record { start = place; codes = code ∷ run.codes } ∷ runs) (record { start = place; codes = code ∷ [] } ∷ (run ∷ runs))
    (λ rs. are_placed place rs ≡ true)
    (λ f. let same = eqb-true run.start (suc place) f in
    and_from (nat_le place place) _ (le-leb place place (omega arith))
    (and_from (nat_lt 0 (suc (length run.codes))) _ (lt-ltb 0 (suc (length run.codes)) (omega arith))
    (subst (λ (n : ℕ). are_placed n runs ≡ true) (let g : suc (run_end run) ≡ suc (place + suc (length run.codes)) = omega arith in g) some.1)))
    (λ f. let other = eqb-false run.start (suc place) f in
    and_from (nat_le place place) _ (le-leb place place (omega arith))
    (and_from (nat_le (suc (place + 1)) run.start) _ (le-leb (suc (place + 1)) run.start (omega arith)) starts.1))

pub placed-runs_from : (place : ℕ) (cells : List Cell) → are_placed place (runs_from place cells) ≡ true
placed-runs_from place [] = refl
placed-runs_from place (Sound code ∷ cells) = placed-with_sound place code (runs_from (suc place) cells) (placed-runs_from (suc place) cells)
placed-runs_from place (Symbol byte ∷ cells) = placed-earlier (suc place) place (runs_from (suc place) cells) (omega arith) (placed-runs_from (suc place) cells)

pub placed-runs_of : (cells : List Cell) → are_placed 0 (runs_of cells) ≡ true
unfolding runs_of
placed-runs_of cells = placed-runs_from 0 cells

-- their places are not before the place
pub placed-above : (place : ℕ) (runs : List PlacedRun) → are_placed place runs ≡ true → list_all (λ p. nat_le place p) (flat_map run_places runs) ≡ true
placed-above place [] e = refl
placed-above place (run ∷ runs) e =
    let starts = and_parts (nat_le place run.start) _ e in
    let l = leb-true place run.start starts.0 in
    let some = and_parts (nat_lt 0 (length run.codes)) (are_placed (suc (run_end run)) runs) starts.1 in
    list_all-join (λ p. nat_le place p) (run_places run) (flat_map run_places runs)
    (range-all (λ p. nat_le place p) run.start (length run.codes) (λ k m _. le-leb place k (omega arith)))
    (list_all-weaker (λ p. nat_le (suc (run_end run)) p) (λ p. nat_le place p)
    (λ p m. le-leb place p (let n = leb-true (suc (run_end run)) p m in omega arith)) (flat_map run_places runs) (placed-above (suc (run_end run)) runs some.1))

-- a run among the others: those before it end before the place before it, and those behind it begin behind the place behind it
pub record IsAmong (before : List PlacedRun) (run : PlacedRun) (behind : List PlacedRun) : Type 0 where
  pub some : 0 < length run.codes
  pub front : list_all (λ p. nat_lt (suc p) run.start) (flat_map run_places before) ≡ true
  pub back : list_all (λ p. nat_le (suc (run_end run)) p) (flat_map run_places behind) ≡ true

placed-least : (place : ℕ) (before : List PlacedRun) (run : PlacedRun) (behind : List PlacedRun) → are_placed place (before ++ run ∷ behind) ≡ true → place ≤ run.start
placed-least place [] run behind e = leb-true place run.start ((and_parts (nat_le place run.start) _ e).0)
placed-least place (first ∷ before) run behind e =
    let starts = and_parts (nat_le place first.start) _ e in
    let l = leb-true place first.start starts.0 in
    let some = and_parts (nat_lt 0 (length first.codes)) (are_placed (suc (run_end first)) (before ++ run ∷ behind)) starts.1 in
    let m = placed-least (suc (run_end first)) before run behind some.1 in
    omega arith

pub IsAmong-placed : (place : ℕ) (before : List PlacedRun) (run : PlacedRun) (behind : List PlacedRun) → are_placed place (before ++ run ∷ behind) ≡ true → IsAmong before run behind
IsAmong-placed place [] run behind e =
    let starts = and_parts (nat_le place run.start) _ e in
    let some = and_parts (nat_lt 0 (length run.codes)) (are_placed (suc (run_end run)) behind) starts.1 in
    record { some = ltb-true 0 (length run.codes) some.0; front = refl; back = placed-above (suc (run_end run)) behind some.1 }
IsAmong-placed place (first ∷ before) run behind e =
    let starts = and_parts (nat_le place first.start) _ e in
    let some = and_parts (nat_lt 0 (length first.codes)) (are_placed (suc (run_end first)) (before ++ run ∷ behind)) starts.1 in
    let m = placed-least (suc (run_end first)) before run behind some.1 in
    let rest = IsAmong-placed (suc (run_end first)) before run behind some.1 in
    record {
      some = rest.some;
      front = list_all-join (λ p. nat_lt (suc p) run.start) (run_places first) (flat_map run_places before)
          (range-all (λ p. nat_lt (suc p) run.start) first.start (length first.codes) (λ k _ n. lt-ltb (suc k) run.start (omega arith))) rest.front;
      back = rest.back;
    }

-- no syllable stands right before a run, and none right behind it
is-not : (a b : ℕ) → (a ≡ b → ⊥) → not (a == b) ≡ true
is-not a b h = not_from_false (a == b) (ne_eqb a b h)

pub apart-end : (before : List PlacedRun) (run : PlacedRun) (behind : List PlacedRun) → IsAmong before run behind
    → list_all (λ p. not (p == run_end run)) (flat_map run_places (before ++ run ∷ behind)) ≡ true
apart-end before run behind h =
    let q = λ (p : ℕ). not (p == run_end run) in
    ap (list_all q) (flat_map-append run_places before (run ∷ behind))
    ∙ list_all-join q (flat_map run_places before) (run_places run ++ flat_map run_places behind)
    (list_all-weaker (λ p. nat_lt (suc p) run.start) q (λ p l. is-not p (run_end run) (λ e. let m = ltb-true (suc p) run.start l in omega arith)) (flat_map run_places before) h.front)
    (list_all-join q (run_places run) (flat_map run_places behind)
    (range-all q run.start (length run.codes) (λ k _ m. is-not k (run_end run) (λ e. omega arith)))
    (list_all-weaker (λ p. nat_le (suc (run_end run)) p) q (λ p l. is-not p (run_end run) (λ e. let m = leb-true (suc (run_end run)) p l in omega arith)) (flat_map run_places behind) h.back))

pub apart-start : (before : List PlacedRun) (run : PlacedRun) (behind : List PlacedRun) → IsAmong before run behind
    → list_all (λ p. not (suc p == run.start)) (flat_map run_places (before ++ run ∷ behind)) ≡ true
apart-start before run behind h =
    let q = λ (p : ℕ). not (suc p == run.start) in
    ap (list_all q) (flat_map-append run_places before (run ∷ behind))
    ∙ list_all-join q (flat_map run_places before) (run_places run ++ flat_map run_places behind)
    (list_all-weaker (λ p. nat_lt (suc p) run.start) q (λ p l. is-not (suc p) run.start (λ e. let m = ltb-true (suc p) run.start l in omega arith)) (flat_map run_places before) h.front)
    (list_all-join q (run_places run) (flat_map run_places behind)
    (range-all q run.start (length run.codes) (λ k m _. is-not (suc k) run.start (λ e. omega arith)))
    (list_all-weaker (λ p. nat_le (suc (run_end run)) p) q (λ p l. is-not (suc p) run.start (λ e. let m = leb-true (suc (run_end run)) p l in omega arith)) (flat_map run_places behind) h.back))

-- the run at a place of a list, among the others
pub split-at : {X : Type 0} (xs : List X) (k : ℕ) (x : X) → slice_get xs k ≡ Some x → xs ≡ take k xs ++ (x ∷ drop (suc k) xs)
split-at [] k x e = absurd (none-some x e)
split-at (y ∷ ys) zero x e = ap (λ z. z ∷ ys) (same_Some y x e)
split-at (y ∷ ys) (suc k) x e = ap (λ zs. y ∷ zs) (split-at ys k x e)

-- what the syllables of cells pass, those of each run pass
abbrev pub sound_passes : (ℕ → Bool) → Cell → Bool
sound_passes q (Sound code) = q code
sound_passes q (Symbol byte) = true

run_passes : (q : ℕ → Bool) (place code : ℕ) (runs : List PlacedRun) → q code ≡ true → list_all (λ run. list_all q run.codes) runs ≡ true
    → list_all (λ run. list_all q run.codes) (with_sound place code runs) ≡ true
run_passes q place code [] e all = and_from (list_all q (code ∷ [])) true (and_from (q code) true e refl) refl
run_passes q place code (run ∷ runs) e all =
    let parts = and_parts (list_all q run.codes) (list_all (λ run. list_all q run.codes) runs) all in
    cond_both (run.start == suc place) (record { start = place; codes = code ∷ run.codes } ∷ runs) (record { start = place; codes = code ∷ [] } ∷ (run ∷ runs))
    (λ rs. list_all (λ r. list_all q r.codes) rs ≡ true)
    (λ _. and_from (list_all q (code ∷ run.codes)) _ (and_from (q code) (list_all q run.codes) e parts.0) parts.1)
    (λ _. and_from (list_all q (code ∷ [])) _ (and_from (q code) true e refl) all)

runs_pass : (q : ℕ → Bool) (place : ℕ) (cells : List Cell) → list_all (sound_passes q) cells ≡ true → list_all (λ run. list_all q run.codes) (runs_from place cells) ≡ true
runs_pass q place [] e = refl
runs_pass q place (Sound code ∷ cells) e =
    let parts = and_parts (q code) (list_all (sound_passes q) cells) e in
    run_passes q place code (runs_from (suc place) cells) parts.0 (runs_pass q (suc place) cells parts.1)
runs_pass q place (Symbol byte ∷ cells) e = runs_pass q (suc place) cells e

pub runs-pass : (q : ℕ → Bool) (cells : List Cell) → list_all (sound_passes q) cells ≡ true → list_all (λ run. list_all q run.codes) (runs_of cells) ≡ true
unfolding runs_of
runs-pass q cells e = runs_pass q 0 cells e

pub sounds-pass : (q : ℕ → Bool) (cells : List Cell) → ((code : ℕ) → Contains cells (Sound code) → q code ≡ true) → list_all (sound_passes q) cells ≡ true
sounds-pass q [] h = refl
sounds-pass q (Sound code ∷ cells) h =
    and_from (q code) (list_all (sound_passes q) cells) (h code (Contains-head (Sound code) cells))
    (sounds-pass q cells (λ other i. h other (Contains-tail (Sound code) cells (Sound other) i)))
sounds-pass q (Symbol byte ∷ cells) h = sounds-pass q cells (λ other i. h other (Contains-tail (Symbol byte) cells (Sound other) i))
