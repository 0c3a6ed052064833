-- The place of a pair's row among the rows of a map.
use Rattle.std.specs.Prelude.{◌≡◌, ℕ, ◌<◌, ◌≤◌, List, length}
use Rattle.std.specs.List.{AllWithin, HoldsAt}
use Rattle.std.specs.declared.cmp.Ordering.TheVariants.{Less, Equal, Greater}
use Rattle.chew_spec_syllable.specs.Row.{Row, pair_cmp}

-- the pair's row stands at this place
pub record Stands (rows : List Row) (key phrase : List ℕ) (place : ℕ) : Type 0 where
  pub inside : place < length rows
  pub here : HoldsAt (λ row. pair_cmp row.key row.phrase key phrase ≡ Equal) rows place

-- no row is of the pair, and one would stand at this place
pub record Lacks (rows : List Row) (key phrase : List ℕ) (place : ℕ) : Type 0 where
  pub within : place ≤ length rows
  pub before : AllWithin (λ row. pair_cmp row.key row.phrase key phrase ≡ Less) rows 0 place
  pub behind : AllWithin (λ row. pair_cmp row.key row.phrase key phrase ≡ Greater) rows place (length rows)
