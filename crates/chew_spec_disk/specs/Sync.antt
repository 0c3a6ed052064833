-- What a sync does to what a crash may leave of a slot.
use Rattle.std.specs.Prelude.{◌≡◌, ◌≢◌, ℕ, List, ◌↔◌, Result, MatchResult}
use Rattle.chew_spec_disk.specs.Disk.{DiskState, Passes, Stays}

-- a crash may leave what reads give of this slot, and nothing else
abbrev pub IsSettled : DiskState → ℕ → Type 0
IsSettled disk slot = (list : List ℕ) → disk.may_leave slot list ↔ (list ≡ disk.reads slot)

-- a sync that was done
pub record Syncs (slot : ℕ) (before after : DiskState) : Type 0 where
  pub passes : Passes before after
  pub reads : (each : ℕ) → after.reads each ≡ before.reads each
  pub settled : IsSettled after slot
  pub other_outcomes : (other : ℕ) (list : List ℕ) → other ≢ slot → after.may_leave other list ↔ before.may_leave other list

-- what a sync's answer says: done, or nothing changed
abbrev pub SyncAnswers : {T E : Type 0} → (slot : ℕ) → (before after : DiskState) → Result T E → Type 0
SyncAnswers slot before after answer = MatchResult answer (λ _. Syncs slot before after) (λ _. Stays before after)
