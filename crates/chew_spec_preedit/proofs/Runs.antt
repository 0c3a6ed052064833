-- The runs of cells, one after another.
use Rattle.std.proofs.Common.{◌≡◌, ℕ, zero, suc, ◌+◌, ◌<◌, ◌≤◌, Bool, true, false, cond, List, [], ◌∷◌, ◌++◌, length, drop, refl, ap, sym, subst, ◌∙◌, arith}
use Rattle.std.specs.Prelude.{◌==◌, nat_le, nat_lt}
use Rattle.std.specs.List.{list_all}
use Rattle.std.proofs.lemmas.Bool.{and_from, and_parts, cond-false, cond-true, cond_both, eq-eqb, le-leb, leb-true, ne_eqb}
use Rattle.chew_spec_preedit.specs.Cell.{Cell, Sound, Symbol}
use Rattle.chew_spec_preedit.specs.PlacedRun.{PlacedRun, leading_codes, runs_from, with_sound}
use Rattle.chew_spec_preedit.proofs.Kept.{list_all-weaker}

-- the run of some syllables, where there are any
abbrev pub run_of : ℕ → List ℕ → List PlacedRun
run_of place [] = []
run_of place (code ∷ codes) = record { start = place; codes = code ∷ codes } ∷ []

abbrev pub starts_at_least : ℕ → PlacedRun → Bool
starts_at_least place run = nat_le place run.start

at_least_with_sound : (place code : ℕ) (runs : List PlacedRun) → list_all (starts_at_least (suc place)) runs ≡ true → list_all (starts_at_least place) (with_sound place code runs) ≡ true
at_least_with_sound place code [] e = and_from (nat_le place place) true (le-leb place place (omega arith)) refl
at_least_with_sound place code (run ∷ runs) e =
    let parts = and_parts (nat_le (suc place) run.start) (list_all (starts_at_least (suc place)) runs) e in
    let weaker = list_all-weaker (starts_at_least (suc place)) (starts_at_least place) (λ r l. le-leb place r.start (let m = leb-true (suc place) r.start l in omega arith)) in
    cond_both (run.start == suc place) (record { start = place; codes = code ∷ run.codes } ∷ runs) (record { start = place; codes = code ∷ [] } ∷ (run ∷ runs))
    (λ rs. list_all (starts_at_least place) rs ≡ true)
    (λ _. and_from (nat_le place place) _ (le-leb place place (omega arith)) (weaker runs parts.1))
    (λ _. and_from (nat_le place place) _ (le-leb place place (omega arith)) (weaker (run ∷ runs) e))

-- no run of cells begins before them
pub starts-runs_from : (place : ℕ) (cells : List Cell) → list_all (starts_at_least place) (runs_from place cells) ≡ true
starts-runs_from place [] = refl
starts-runs_from place (Sound code ∷ cells) = at_least_with_sound place code (runs_from (suc place) cells) (starts-runs_from (suc place) cells)
starts-runs_from place (Symbol byte ∷ cells) =
    list_all-weaker (starts_at_least (suc place)) (starts_at_least place) (λ r l. le-leb place r.start (let m = leb-true (suc place) r.start l in omega arith)) (runs_from (suc place) cells) (starts-runs_from (suc place) cells)

-- a syllable that no run begins right behind is a run by itself
with_sound-apart : (place code : ℕ) (runs : List PlacedRun) → list_all (starts_at_least (suc (suc place))) runs ≡ true → with_sound place code runs ≡ record { start = place; codes = code ∷ [] } ∷ runs
with_sound-apart place code [] e = refl
with_sound-apart place code (run ∷ runs) e =
    let l = leb-true (suc (suc place)) run.start ((and_parts (nat_le (suc (suc place)) run.start) (list_all (starts_at_least (suc (suc place))) runs) e).0) in
    cond-false (run.start == suc place) _ _ (ne_eqb run.start (suc place) (λ h. absurd (omega arith)))

step_alone : (place code : ℕ) (rest : List PlacedRun) (n : ℕ) (cells : List Cell) → rest ≡ runs_from n cells → suc (suc place) ≡ n
    → with_sound place code rest ≡ record { start = place; codes = code ∷ [] } ∷ runs_from n cells
step_alone place code rest n cells e f =
    ap (with_sound place code) e
    ∙ with_sound-apart place code (runs_from n cells) (subst (λ (k : ℕ). list_all (starts_at_least k) (runs_from n cells) ≡ true) (sym f) (starts-runs_from n cells))

step_joined : (place code next : ℕ) (codes : List ℕ) (rest tail : List PlacedRun) → rest ≡ record { start = suc place; codes = next ∷ codes } ∷ tail
    → with_sound place code rest ≡ record { start = place; codes = code ∷ (next ∷ codes) } ∷ tail
step_joined place code next codes rest tail e =
    ap (with_sound place code) e ∙ cond-true (suc place == suc place) _ _ (eq-eqb (suc place) (suc place) refl)

step_of : (place code : ℕ) (cells : List Cell) (lead : List ℕ) (rest : List PlacedRun)
    → rest ≡ run_of (suc place) lead ++ runs_from (suc place + length lead + 1) (drop (length lead + 1) cells)
    → with_sound place code rest ≡ run_of place (code ∷ lead) ++ runs_from (place + length (code ∷ lead) + 1) (drop (length (code ∷ lead) + 1) (Sound code ∷ cells))
step_of place code cells [] rest e =
    step_alone place code rest (suc place + 0 + 1) (drop 1 cells) e (omega arith)
    ∙ ap (λ n. record { start = place; codes = code ∷ [] } ∷ runs_from n (drop 1 cells)) (let f : suc place + 0 + 1 ≡ place + 1 + 1 = omega arith in f)
step_of place code cells (next ∷ codes) rest e =
    let len = suc (length codes) in
    step_joined place code next codes rest (runs_from (suc place + len + 1) (drop (len + 1) cells)) e
    ∙ (ap (λ n. record { start = place; codes = code ∷ (next ∷ codes) } ∷ runs_from n (drop (len + 1) cells)) (let f : suc place + len + 1 ≡ place + suc len + 1 = omega arith in f)
    ∙ ap (λ n. record { start = place; codes = code ∷ (next ∷ codes) } ∷ runs_from (place + suc len + 1) (drop n (Sound code ∷ cells))) (let f : suc (len + 1) ≡ suc len + 1 = omega arith in f))

-- the runs of cells are the one that they begin with, if they do, and those behind it and one cell more
pub runs_from-step : (place : ℕ) (cells : List Cell)
    → runs_from place cells ≡ run_of place (leading_codes cells) ++ runs_from (place + length (leading_codes cells) + 1) (drop (length (leading_codes cells) + 1) cells)
runs_from-step place [] = refl
runs_from-step place (Symbol byte ∷ cells) = ap (λ n. runs_from n cells) (let f : suc place ≡ place + 0 + 1 = omega arith in f)
runs_from-step place (Sound code ∷ cells) = step_of place code cells (leading_codes cells) (runs_from (suc place) cells) (runs_from-step (suc place) cells)
