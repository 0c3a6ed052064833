-- What crashes over a stretch of moments might have left.
use Rattle.std.specs.Prelude.{ℕ, ◌<◌, ◌≤◌, List}
use Rattle.chew_spec_disk.specs.Disk.{DiskState, last_moment}

-- at every moment from one on until now, a crash left only pairs of lists with this property
pub record AlwaysLeft (from : ℕ) (disk : DiskState) (P : List ℕ → List ℕ → Type 0) : Type 0 where
  pub each : disk.moment < last_moment → (moment : ℕ) (zero one : List ℕ) → from ≤ moment → moment ≤ disk.moment →
      disk.might_have_left moment 0 zero → disk.might_have_left moment 1 one → P zero one

-- at every moment from one to another, a crash might have left some pair of lists with this property
pub record AlwaysMightLeave (from until : ℕ) (disk : DiskState) (P : List ℕ → List ℕ → Type 0) : Type 0 where
  pub each : disk.moment < last_moment → (moment : ℕ) → from ≤ moment → moment ≤ until →
      (zero one : List ℕ) × disk.might_have_left moment 0 zero × disk.might_have_left moment 1 one × P zero one

-- a crash now leaves only pairs of lists with this property
abbrev pub NowLeaves : DiskState → (List ℕ → List ℕ → Type 0) → Type 0
NowLeaves disk P = (zero one : List ℕ) → disk.may_leave 0 zero → disk.may_leave 1 one → P zero one

-- a crash now may leave some pair of lists with this property
abbrev pub NowMayLeave : DiskState → (List ℕ → List ℕ → Type 0) → Type 0
NowMayLeave disk P = (zero one : List ℕ) × disk.may_leave 0 zero × disk.may_leave 1 one × P zero one
