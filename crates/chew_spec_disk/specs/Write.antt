-- What a write does to a slot, to what reads give of it and to what a crash may leave of it.
use Rattle.std.specs.Prelude.{◌≡◌, ◌≢◌, ◌⊎◌, ℕ, ◌+◌, ◌<◌, ◌≤◌, max, List, length, slice_index, ◌↔◌, Result, MatchResult}
use Rattle.chew_spec_disk.specs.Disk.{DiskState, Passes, Stays}

-- a list after a write of n bytes that a crash cuts short: any bytes in the range and past the old end, the others as
-- they were; a length between the old one and the range's end
pub record Torn (at n : ℕ) (old new : List ℕ) : Type 0 where
  pub no_shorter : length old ≤ length new
  pub no_longer : length new ≤ max (length old) (at + n)
  pub same : (k : ℕ) → k < length old → (k < at) ⊎ (at + n ≤ k) → slice_index new k ≡ slice_index old k

-- what a torn write makes of one of these lists
abbrev pub IsTornOf : (at n : ℕ) → (List ℕ → Type 0) → List ℕ → Type 0
IsTornOf at n lists new = (old : List ℕ) × lists old × Torn at n old new

-- a list has these bytes in their range, and ends there or where the old one ended
pub record Holds (at : ℕ) (bytes old new : List ℕ) : Type 0 where
  pub there : (k : ℕ) → k < length bytes → slice_index new (at + k) ≡ slice_index bytes k
  pub long : length new ≡ max (length old) (at + length bytes)

-- a write that counts as made and not synced
pub record Writes (slot at n : ℕ) (before after : DiskState) : Type 0 where
  pub passes : Passes before after
  pub read : Torn at n (before.reads slot) (after.reads slot)
  pub other_read : (other : ℕ) → other ≢ slot → after.reads other ≡ before.reads other
  pub outcomes : (list : List ℕ) → after.may_leave slot list ↔ IsTornOf at n (before.may_leave slot) list
  pub other_outcomes : (other : ℕ) (list : List ℕ) → other ≢ slot → after.may_leave other list ↔ before.may_leave other list

-- a write that was done
pub record Wrote (slot at : ℕ) (bytes : List ℕ) (before after : DiskState) : Type 0 where
  pub writes : Writes slot at (length bytes) before after
  pub holds : Holds at bytes (before.reads slot) (after.reads slot)

-- what a write's answer says: done; else it counts as made, or changed nothing
abbrev pub WriteAnswers : {T E : Type 0} → (slot at : ℕ) → List ℕ → (before after : DiskState) → Result T E → Type 0
WriteAnswers slot at bytes before after answer =
    MatchResult answer (λ _. Wrote slot at bytes before after) (λ _. Writes slot at (length bytes) before after ⊎ Stays before after)
