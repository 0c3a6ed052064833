-- What a session of rounds leaves of a disk while the history grows: maps after fronts of the history, never a shorter one.
use Rattle.std.specs.Prelude.{◌≡◌, ℕ, suc, ◌<◌, ◌≤◌, List, [], ◌∷◌, ◌++◌, unwrap_or, ◌↔◌}
use Rattle.chew_spec_disk.specs.Disk.{DiskState, IsDisk, Later, last_moment}
use Rattle.chew_spec_disk.specs.Moments.{NowLeaves}
use Rattle.chew_spec_dictionary.specs.Dictionary.{Dictionary}
use Rattle.chew_spec_dictionary.specs.History.{Entry, calls_of}
use Rattle.chew_spec_rounds.specs.Front.{IsNumber, RecoversToEither, RecoversToFront, shape_after}
use Rattle.chew_spec_rounds.specs.Round.{IsRound, Round, saved_number}

-- a moment has a floor: the number is 0 or that of a freeze, and some pair that a crash at that moment might have left
-- recovers to the map after so many entries
pub record HasFloor (start : Dictionary) (history : List Entry) (disk : DiskState) (moment number : ℕ) : Type 0 where
  pub numbered : IsNumber start history number
  pub pair : (zero one : List ℕ) × disk.might_have_left moment 0 zero × disk.might_have_left moment 1 one × RecoversToFront start history number zero one

-- a moment has a floor of at most this number
abbrev pub HasFloorUpTo : Dictionary → List Entry → DiskState → (moment most : ℕ) → Type 0
HasFloorUpTo start history disk moment most = (number : ℕ) × (number ≤ most) × HasFloor start history disk moment number

-- a number that can be chosen for a pair of slots that a crash at a moment might have left: the pair recovers to the map
-- after so many entries, and each earlier moment since the start has a floor of at most that number
pub record IsChosen (start : Dictionary) (history : List Entry) (from : ℕ) (disk : DiskState) (moment : ℕ) (zero one : List ℕ) (number : ℕ) : Type 0 where
  pub numbered : IsNumber start history number
  pub recovers : RecoversToFront start history number zero one
  pub no_shorter : (earlier : ℕ) → from ≤ earlier → earlier < moment → HasFloorUpTo start history disk earlier number

-- the front never gets shorter: such a number can be chosen for each pair of each moment since the start
pub record NeverShortens (start : Dictionary) (history : List Entry) (from : ℕ) (disk : DiskState) : Type 0 where
  pub each : disk.moment < last_moment → (moment : ℕ) (zero one : List ℕ) → from ≤ moment → moment ≤ disk.moment →
      disk.might_have_left moment 0 zero → disk.might_have_left moment 1 one → (number : ℕ) × IsChosen start history from disk moment zero one number

-- the number of entries of the last round that saved any, or 0 without one
abbrev pub last_saved : (before : ℕ) → List Round → ℕ
last_saved before [] = before
last_saved before (round ∷ rounds) = last_saved (unwrap_or (saved_number round) before) rounds

-- the rounds so far, from a moment on: the front never gets shorter, each moment has a floor of at most the number last
-- acknowledged, and now recovery gives the map after that many entries or after those of the snapshot that still waits
pub record IsSession (start : Dictionary) (history : List Entry) (from : ℕ) (disk : DiskState) (rounds : List Round) : Type 0 where
  pub begun : from ≤ disk.moment
  pub acknowledged : (shape_after start history).installed ≡ last_saved 0 rounds
  pub never_shortens : NeverShortens start history from disk
  pub floors : disk.moment < last_moment → (moment : ℕ) → from ≤ moment → moment ≤ disk.moment → HasFloorUpTo start history disk moment (last_saved 0 rounds)
  pub ends : NowLeaves disk (RecoversToEither start history (last_saved 0 rounds) (shape_after start history).waiting)

-- rounds one after the other, from a place on: each begins with the disk and the history that the one before left
abbrev pub AreRounds : Dictionary → (seen : ℕ → List Entry) → (disks : ℕ → DiskState) → (place : ℕ) → List Round → Type 0
AreRounds start seen disks place [] = Unit {0}
AreRounds start seen disks place (round ∷ rounds) =
    IsRound start (seen place) (seen (suc place)) (disks place) (disks (suc place)) round × AreRounds start seen disks (suc place) rounds

-- a history that went on by entries of others than the keeper
pub record GrowsByOthers (before now : List Entry) : Type 0 where
  pub more : List Entry
  pub joined : now ≡ before ++ more
  pub calls : calls_of more 0 ≡ []

-- a stretch of calls that only read: at each moment of it a crash may leave what it might have left before
pub record OnlyReads (before after : DiskState) : Type 0 where
  pub is_disk : IsDisk after
  pub later : Later before after
  pub outcomes : (slot : ℕ) (list : List ℕ) → after.may_leave slot list ↔ before.may_leave slot list
  pub between : after.moment < last_moment → (moment slot : ℕ) (list : List ℕ) → before.moment < moment → moment ≤ after.moment →
      after.might_have_left moment slot list ↔ before.may_leave slot list
