-- Faults of the outside: how an object's count of them moves in one call.
use Rattle.std.specs.Prelude.{◌≡◌, ℕ, ◌+◌, ◌-◌, ◌^◌, ◌≤◌, min, Bool, IsTrue, IsFalse}

-- a count after one more, which stays at the end of its type
abbrev pub risen : ℕ → ℕ
risen count = min (count + 1) (2 ^ 64 - 1)

-- the count rose, or stands at the end of its type, from which it can't rise
abbrev pub Rose : ℕ → ℕ → Type 0
Rose before now = risen before ≤ now

-- one call's faults: the count never falls, the call fails only where it rose, and else leaves it as it was
pub record HasCause (before now : ℕ) (failed : Bool) : Type 0 where
  pub never_falls : before ≤ now
  pub rose : IsTrue failed → Rose before now
  pub same : IsFalse failed → now ≡ before
