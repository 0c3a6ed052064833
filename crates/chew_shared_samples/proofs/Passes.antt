-- The passes of a new dictionary.
use Rattle.std.proofs.Common.{◌≡◌, ℕ, suc, List, ◌∷◌, All, sym, subst, arith}
use Rattle.chew_spec_cell.specs.Pass.{Cell, Pass, new_passes}
use Rattle.chew_spec_cell.proofs.Passes.{ours-new_passes}

-- those behind the first are of this cell
pub ours_behind : (cell : Cell) (count : ℕ) (first : Pass) (others : List Pass) → first ∷ others ≡ new_passes cell count
    → All (λ (p : Pass). p.cell ≡ cell) others
ours_behind cell count first others is =
    let all : All (λ (p : Pass). p.cell ≡ cell) (first ∷ others) =
    subst (λ (l : List Pass). All (λ (p : Pass). p.cell ≡ cell) l) (sym is) (ours-new_passes cell count) in
    λ k d low. all (suc k) d (omega arith)
