-- A loop that pushes the runs of cells, one after another.
use Rattle.std.proofs.Common.{◌≡◌, ℕ, ◌+◌, ◌<◌, ◌≤◌, List, [], ◌∷◌, ◌++◌, length, drop, refl, ap, sym, subst, ◌∙◌, arith}
use Rattle.std.proofs.lemmas.List.{append_assoc, append-nil, drop-drop, drop_all}
use Rattle.chew_spec_preedit.specs.Cell.{Cell}
use Rattle.chew_spec_preedit.specs.PlacedRun.{PlacedRun, leading_codes, runs_from}
use Rattle.chew_spec_preedit.proofs.Runs.{run_of, runs_from-step}

rest_of : (place : ℕ) (cells : List Cell) (codes : List ℕ) → codes ≡ leading_codes (drop place cells)
    → runs_from place (drop place cells) ≡ run_of place codes ++ runs_from (place + (length codes + 1)) (drop (place + (length codes + 1)) cells)
rest_of place cells codes e =
    runs_from-step place (drop place cells)
    ∙ (ap (λ cs. run_of place cs ++ runs_from (place + length cs + 1) (drop (length cs + 1) (drop place cells))) (sym e)
    ∙ (ap (λ n. run_of place codes ++ runs_from n (drop (length codes + 1) (drop place cells))) (let f : place + length codes + 1 ≡ place + (length codes + 1) = omega arith in f)
    ∙ ap (λ ys. run_of place codes ++ runs_from (place + (length codes + 1)) ys) (drop-drop (length codes + 1) place cells)))

run_of-some : (place : ℕ) (codes : List ℕ) → 0 < length codes → run_of place codes ≡ record { start = place; codes = codes } ∷ []
run_of-some place [] l = absurd (omega arith)
run_of-some place (code ∷ codes) l = refl

run_of-none : (place : ℕ) (codes : List ℕ) → length codes ≤ 0 → run_of place codes ≡ []
run_of-none place [] l = refl
run_of-none place (code ∷ codes) l = absurd (omega arith)

pub runs-pushed : (place : ℕ) (cells : List Cell) (codes : List ℕ) (len : ℕ) (had now whole : List PlacedRun) → len ≡ length codes → codes ≡ leading_codes (drop place cells) → 0 < length codes
    → now ≡ had ++ (record { start = place; codes = codes } ∷ []) → had ++ runs_from place (drop place cells) ≡ whole
    → now ++ runs_from (place + (len + 1)) (drop (place + (len + 1)) cells) ≡ whole
runs-pushed place cells codes len had now whole m e l n h =
    subst (λ k. now ++ runs_from (place + (k + 1)) (drop (place + (k + 1)) cells) ≡ whole) (sym m)
    (let later = runs_from (place + (length codes + 1)) (drop (place + (length codes + 1)) cells) in
    ap (λ rs. rs ++ later) (n ∙ ap (λ rs. had ++ rs) (sym (run_of-some place codes l)))
    ∙ (append_assoc had (run_of place codes) later ∙ (ap (λ rs. had ++ rs) (sym (rest_of place cells codes e)) ∙ h)))

pub runs-skipped : (place : ℕ) (cells : List Cell) (codes : List ℕ) (len : ℕ) (had now whole : List PlacedRun) → len ≡ length codes → codes ≡ leading_codes (drop place cells) → length codes ≤ 0
    → now ≡ had → had ++ runs_from place (drop place cells) ≡ whole
    → now ++ runs_from (place + (len + 1)) (drop (place + (len + 1)) cells) ≡ whole
runs-skipped place cells codes len had now whole m e l n h =
    subst (λ k. now ++ runs_from (place + (k + 1)) (drop (place + (k + 1)) cells) ≡ whole) (sym m)
    (let later = runs_from (place + (length codes + 1)) (drop (place + (length codes + 1)) cells) in
    ap (λ rs. rs ++ later) n ∙ (ap (λ rs. had ++ rs) (sym (rest_of place cells codes e ∙ ap (λ rs. rs ++ later) (run_of-none place codes l))) ∙ h))

pub runs-all : (place : ℕ) (cells : List Cell) (had whole : List PlacedRun) → length cells ≤ place → had ++ runs_from place (drop place cells) ≡ whole → had ≡ whole
runs-all place cells had whole l h =
    sym (append-nil had) ∙ (ap (λ cs. had ++ runs_from place cs) (sym (drop_all place cells l)) ∙ h)
