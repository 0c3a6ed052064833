-- A disk with two slots as it is seen: its moment, what reads give, and what a crash leaves. The rule is this project's own.
use Rattle.std.specs.Prelude.{◌≡◌, ℕ, ◌-◌, ◌^◌, ◌<◌, ◌≤◌, List, [], ◌↔◌}
use Rattle.chew_spec_outside.specs.Faults.{risen}

-- a disk that tells its content; its slots are 0 and 1, and their lists of bytes are chosen apart
pub record DiskState : Type 1 where
  -- a number that rises by one with each call, up to the last
  pub moment : ℕ
  -- what reads give of a slot
  pub reads : ℕ → List ℕ
  -- what a crash now may leave of a slot
  pub may_leave : ℕ → List ℕ → Type 0
  -- what a crash at a moment so far might have left of a slot
  pub might_have_left : ℕ → ℕ → List ℕ → Type 0

-- the last moment, at which the number stands still: of moments nothing is said from there on
abbrev pub last_moment : ℕ
last_moment = 2 ^ 64 - 1

-- what reads give may be left, and what might have been left at this moment is what may be left now
pub record IsDisk (disk : DiskState) : Type 0 where
  pub reads_may_be_left : (slot : ℕ) → disk.may_leave slot (disk.reads slot)
  pub this_moment : disk.moment < last_moment → (slot : ℕ) (list : List ℕ) → disk.might_have_left disk.moment slot list ↔ disk.may_leave slot list

-- a disk later on: what crashes at the earlier moments might have left is the same
pub record Later (before after : DiskState) : Type 0 where
  pub not_before : before.moment ≤ after.moment
  pub earlier : after.moment < last_moment → (moment slot : ℕ) (list : List ℕ) → moment ≤ before.moment →
      before.might_have_left moment slot list ↔ after.might_have_left moment slot list

-- one call: the moment rises by one
pub record Passes (before after : DiskState) : Type 0 where
  pub rises : after.moment ≡ risen before.moment
  pub later : Later before after

-- one call that changes nothing
pub record Stays (before after : DiskState) : Type 0 where
  pub passes : Passes before after
  pub reads : (slot : ℕ) → after.reads slot ≡ before.reads slot
  pub outcomes : (slot : ℕ) (list : List ℕ) → after.may_leave slot list ↔ before.may_leave slot list

-- what stands for the content of a disk that doesn't tell it: of this nothing is ever said
abbrev pub untold : DiskState
untold = record { moment = 0; reads = λ slot. []; may_leave = λ slot list. ⊥; might_have_left = λ moment slot list. ⊥ }
