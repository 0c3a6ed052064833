-- The rows that an iterator still gives.
use Rattle.std.specs.Prelude.{ℕ, ◌-◌, List, take, drop}
use Rattle.chew_spec_syllable.specs.Row.{Row}

-- a row without its key
pub record Lent : Type 0 where
  pub phrase : List ℕ
  pub freq : ℕ
  pub time : ℕ

-- what is lent of a row
abbrev pub lent : Row → Lent
lent row = record { phrase = row.phrase; freq = row.freq; time = row.time }

-- the rows from one place up to another
abbrev pub rows_between : List Row → (start end : ℕ) → List Row
rows_between rows start end = take (end - start) (drop start rows)
