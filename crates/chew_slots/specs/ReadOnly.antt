-- A disk from which some calls only read.
use Rattle.std.specs.Prelude.{◌≡◌, ℕ, ◌<◌, ◌≤◌, List, ◌↔◌}
use Rattle.chew_spec_disk.specs.Disk.{DiskState, Later, last_moment}

-- it tells the same but for its moment, and so it did at each moment between
pub record IsUntouched (before after : DiskState) : Type 0 where
  pub later : Later before after
  pub reads : (slot : ℕ) → after.reads slot ≡ before.reads slot
  pub outcomes : (slot : ℕ) (list : List ℕ) → after.may_leave slot list ↔ before.may_leave slot list
  pub between : after.moment < last_moment → (moment slot : ℕ) (list : List ℕ) → before.moment < moment → moment ≤ after.moment →
      after.might_have_left moment slot list ↔ before.may_leave slot list
