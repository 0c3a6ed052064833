-- The passes of a new cell.
use Rattle.std.proofs.Common.{◌≡◌, ℕ, zero, suc, ◌<◌, List, [], ◌∷◌, ◌++◌, length, All, Some, refl, sym, subst, length-append, arith}
use Rattle.std.specs.List.{slice_get}
use Rattle.std.proofs.lemmas.List.Elements.{All-append}
use mathlib.Core.Logic.{dite}
use native.Mathlib.Decide.{ℕ_discrete}
use Rattle.chew_spec_cell.specs.Pass.{Cell, Pass, new_passes}

pub length-new_passes : (cell : Cell) (count : ℕ) → length (new_passes cell count) ≡ count
length-new_passes cell zero = refl
length-new_passes cell (suc count) =
    let l = length-append (new_passes cell count) (record { cell = cell; who = count; seen = [] } ∷ []) in
    let r = length-new_passes cell count in omega arith

pass : Cell → ℕ → Pass
pass cell who = record { cell = cell; who = who; seen = [] }

one_ours : (cell : Cell) (p : Pass) → p.cell ≡ cell → All (λ (q : Pass). q.cell ≡ cell) (p ∷ [])
one_ours cell p is zero d low = is
one_ours cell p is (suc k) d low = absurd (omega arith)

pub ours-new_passes : (cell : Cell) (count : ℕ) → All (λ (p : Pass). p.cell ≡ cell) (new_passes cell count)
ours-new_passes cell zero = λ k d low. absurd (omega arith)
ours-new_passes cell (suc count) = All-append (λ (p : Pass). p.cell ≡ cell) (new_passes cell count) (record { cell = cell; who = count; seen = [] } ∷ []) (ours-new_passes cell count)
    (one_ours cell (record { cell = cell; who = count; seen = [] }) refl)

get_first : (xs ys : List Pass) (k : ℕ) (p : Pass) → slice_get xs k ≡ Some p → k < length xs → slice_get (xs ++ ys) k ≡ Some p
get_first [] ys k p e l = absurd (omega arith)
get_first (x ∷ xs) ys zero p e l = e
get_first (x ∷ xs) ys (suc k) p e l = get_first xs ys k p e (omega arith)

get_last : (xs : List Pass) (p : Pass) → slice_get (xs ++ p ∷ []) (length xs) ≡ Some p
get_last [] p = refl
get_last (x ∷ xs) p = get_last xs p

pub slice_get-new_passes : (cell : Cell) (count who : ℕ) → who < count → slice_get (new_passes cell count) who ≡ Some (record { cell = cell; who = who; seen = [] })
unfolding pass
slice_get-new_passes cell zero who l = absurd (omega arith)
slice_get-new_passes cell (suc count) who l =
    dite (ℕ_discrete who count)
    (λ e. subst (λ (k : ℕ). slice_get (new_passes cell (suc count)) k ≡ Some (pass cell k)) (sym e)
    (subst (λ (k : ℕ). slice_get (new_passes cell (suc count)) k ≡ Some (pass cell count)) (length-new_passes cell count) (get_last (new_passes cell count) (pass cell count))))
    (λ ne. get_first (new_passes cell count) (pass cell count ∷ []) who (pass cell who) (slice_get-new_passes cell count who (omega arith)) (let n = length-new_passes cell count in omega arith))
