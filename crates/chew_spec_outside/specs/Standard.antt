-- A source or a sink over a reader or a writer of the standard library, as it is seen.
use Rattle.std.specs.Prelude.{ℕ}

-- what is under it, and the count of its faults
pub record OverStandard (T : Type 0) : Type 0 where
  pub under : T
  pub faults : ℕ
