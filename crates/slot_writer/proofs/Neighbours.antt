-- Rows of which each is below the next one are a map.
use Rattle.std.proofs.Common.{◌≡◌, ℕ, suc, ◌<◌, true, List, [], ◌∷◌, length, get_or, arith}
use Rattle.std.specs.Ordering.{is_lt}
use Rattle.chew_spec_syllable.specs.Row.{Row, image_cmp}
use Rattle.chew_spec_dictionary.specs.Dictionary.{is_map}
use Rattle.chew_spec_dictionary.proofs.ImageOrder.{image_total}
use Rattle.chew_spec_image.proofs.Families.{RowBelow, less_from}
use Rattle.chew_spec_image.proofs.ReadBack.{map_from}
use Rattle.chew_spec_image.proofs.Rising.{Up, above_from, above_in}

-- each is below the next one, up to a place
abbrev pub Neighbours : List Row → ℕ → Type 0
Neighbours rows n = (j : ℕ) → suc j < n → (d : Row) → is_lt (image_cmp (get_or rows j d) (get_or rows (suc j) d)) ≡ true

rows_up : (rows : List Row) → Neighbours rows (length rows) → Up RowBelow rows
rows_up [] next = tt
rows_up (row ∷ []) next = (tt, tt)
rows_up (row ∷ (other ∷ rows)) next =
    let below = less_from (image_cmp row other) (next 0 (omega arith) row) in
    let later = rows_up (other ∷ rows) (λ j h d. next (suc j) (omega arith) d) in
    ((below, above_from RowBelow row rows (λ y i. image_total.trans row other y below (above_in RowBelow other y rows later.0 i))), later)

pub neighbours_map : (rows : List Row) → Neighbours rows (length rows) → is_map rows ≡ true
neighbours_map rows next = map_from rows (rows_up rows next)
