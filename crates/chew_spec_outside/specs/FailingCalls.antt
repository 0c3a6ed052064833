-- Which calls of an object in memory fail, by their numbers from 1.
use Rattle.std.specs.Prelude.{ℕ, Bool, false, ◌||◌, ◌==◌, nat_le, List, Option, Some, None}
use Rattle.std.specs.List.{list_any}

-- single calls, and a call from which on all fail
pub record FailingCalls : Type 0 where
  pub at : List ℕ
  pub from : Option ℕ

-- whether a call is the first of those that all fail, or comes after it
abbrev pub is_from : Option ℕ → ℕ → Bool
is_from None call = false
is_from (Some first) call = nat_le first call

-- whether a call is one that fails
abbrev pub names : FailingCalls → ℕ → Bool
names fails call = list_any (λ listed. listed == call) fails.at || is_from fails.from call
