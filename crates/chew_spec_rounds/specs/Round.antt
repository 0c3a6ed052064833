-- A round, by which the keeper's snapshot of a history comes to be saved: what it answers, the keeper's calls in it, and
-- what it leaves of a disk.
use Rattle.std.specs.Prelude.{◌≡◌, ◌⊎◌, ℕ, ◌-◌, List, [], ◌∷◌, ◌++◌, Option, Some, IfSome, None}
use Rattle.chew_spec_disk.specs.Disk.{DiskState, IsDisk, Later}
use Rattle.chew_spec_disk.specs.Moments.{AlwaysLeft, AlwaysMightLeave, NowLeaves}
use Rattle.chew_spec_dictionary.specs.Call.{Call, Freeze, Install}
use Rattle.chew_spec_dictionary.specs.Dictionary.{Dictionary}
use Rattle.chew_spec_dictionary.specs.History.{Entry, Shape, calls_of}
use Rattle.chew_spec_rounds.specs.Front.{RecoversToEither, RecoversToFront, shape_after}

-- a snapshot of so many entries was saved; or the disk failed at a step of the writing, memory was wanting, or the last
-- number of a checkpoint was spent
pub data Round : Type 0 where
  Saved : (number : ℕ) → Round
  DiskFault : (step : ℕ) → Round
  NoMemory : Round
  SeqSpent : (seq : ℕ) → Round

-- the number of entries that a round saved, where it did
abbrev pub saved_number : Round → Option ℕ
saved_number (Saved number) = Some number
saved_number (DiskFault step) = None
saved_number NoMemory = None
saved_number (SeqSpent seq) = None

-- the calls that the keeper makes in a round: it freezes once the seq is known not to be spent, and installs what was saved
abbrev pub KeepersCalls : Round → List Call → Type 0
KeepersCalls (Saved number) calls = calls ≡ Freeze ∷ (Install number ∷ [])
KeepersCalls (DiskFault step) calls = calls ≡ Freeze ∷ []
KeepersCalls NoMemory calls = (calls ≡ Freeze ∷ []) ⊎ (calls ≡ [])
KeepersCalls (SeqSpent seq) calls = calls ≡ []

-- the calls that it makes in rounds one after the other
abbrev pub AreKeepersCalls : List Round → List Call → Type 0
AreKeepersCalls [] calls = calls ≡ []
AreKeepersCalls (round ∷ rounds) calls = (first rest : List Call) × (calls ≡ first ++ rest) × KeepersCalls round first × AreKeepersCalls rounds rest

-- the number of a round's snapshot: the one that it saved, else the one that waits as the round ends
abbrev pub snapshot_number : Round → Shape → Option ℕ
snapshot_number (Saved number) shape = Some number
snapshot_number (DiskFault step) shape = shape.waiting
snapshot_number NoMemory shape = shape.waiting
snapshot_number (SeqSpent seq) shape = shape.waiting

-- the last moment of a round at which the sync of the open gate has not succeeded: a saved round ends with that sync
abbrev pub last_unsynced : Round → (moment : ℕ) → ℕ
last_unsynced (Saved number) moment = moment - 1
last_unsynced (DiskFault step) moment = moment
last_unsynced NoMemory moment = moment
last_unsynced (SeqSpent seq) moment = moment

-- a round, which found its keeper with the history that it had seen, and leaves it with a longer one: at every moment
-- recovery gives the map after the entries acknowledged before the round, or after those of its snapshot; until the sync
-- of the open gate some pair recovers to the former; once saved, recovery gives the snapshot's alone; and now it gives what
-- is acknowledged then, or what waits then
pub record IsRound (start : Dictionary) (seen seen_then : List Entry) (disk disk_then : DiskState) (round : Round) : Type 0 where
  pub more : List Entry
  pub joined : seen_then ≡ seen ++ more
  pub calls : KeepersCalls round (calls_of more 0)
  pub is_disk : IsDisk disk_then
  pub later : Later disk disk_then
  pub moments : AlwaysLeft disk.moment disk_then
      (RecoversToEither start seen_then (shape_after start seen).installed (snapshot_number round (shape_after start seen_then)))
  pub chances : AlwaysMightLeave disk.moment (last_unsynced round disk_then.moment) disk_then
      (RecoversToFront start seen_then (shape_after start seen).installed)
  pub saved : IfSome (saved_number round) (λ number. NowLeaves disk_then (RecoversToFront start seen_then number))
  pub now : NowLeaves disk_then (RecoversToEither start seen_then (shape_after start seen_then).installed (shape_after start seen_then).waiting)
