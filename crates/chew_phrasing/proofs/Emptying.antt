-- A grid with no pieces.
use Rattle.std.proofs.Common.{◌≡◌, ℕ, zero, suc, ◌≤◌, Bool, true, false, cond, ◌&&◌, List, [], length, get_or, replicate, Option, None, option_map, sym, refl, ap, ◌∙◌, arith}
use Rattle.std.specs.Prelude.{nat_le}
use Rattle.std.proofs.lemmas.List.{length-replicate}
use Rattle.chew_spec_dictionary.specs.Look.{Interval}
use Rattle.chew_spec_phrasing.specs.Usable.{Piece, is_unbroken, piece_at, piece_of_hit}
use Rattle.chew_phrasing.specs.Grid.{Grid, IsGrid, slot_of}

none_at : (n k : ℕ) (o : Option Piece) → get_or (replicate n o) k o ≡ o
none_at zero k o = refl
none_at (suc n) zero o = refl
none_at (suc n) (suc k) o = none_at n k o

no_piece : (breaks : List ℕ) (at : Interval) → piece_at [] breaks [] at ≡ None
unfolding piece_at
no_piece breaks at = by_test (nat_le at.len 11 && is_unbroken breaks at)
  where
    by_test : (b : Bool) → cond b (option_map piece_of_hit None) None ≡ None
    by_test true = refl
    by_test false = refl

-- without rows and choices no interval has a piece
pub IsGrid-none : (breaks : List ℕ) (n : ℕ) (grid : Grid) → grid.slots ≡ replicate n None → IsGrid (piece_at [] breaks []) grid
IsGrid-none breaks n grid e = record {
  each = λ at inside. ap (λ slots. get_or slots (slot_of at) None) e ∙ (none_at n (slot_of at) None ∙ sym (no_piece breaks at));
}

-- as many slots as there are
pub length-empty : (n count : ℕ) (slots : List (Option Piece)) → n ≤ count → count ≤ n → slots ≡ replicate n None → length slots ≡ count
length-empty n count slots l m e = ap length e ∙ (length-replicate n None ∙ (let same : n ≡ count = omega arith in same))
