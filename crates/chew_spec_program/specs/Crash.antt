-- What a crash at any moment of a run leaves: the plain map after a front of the history.
use Rattle.std.specs.Prelude.{◌≡◌, ℕ, true, List}
use Rattle.chew_spec_disk.specs.Disk.{IsDisk}
use Rattle.chew_spec_disk.specs.Moments.{NowLeaves}
use Rattle.chew_spec_disk.specs.Sync.{IsSettled}
use Rattle.chew_spec_dictionary.specs.Dictionary.{Dictionary}
use Rattle.chew_spec_dictionary.specs.History.{Entry, after, start_of}
use Rattle.chew_spec_slots.specs.Fits.{RecoversTo}
use Rattle.chew_spec_slots.specs.Recovery.{Recovered, recovered}
use Rattle.chew_spec_rounds.specs.Front.{checkpoint_at}
use Rattle.chew_spec_rounds.specs.Round.{Round}
use Rattle.chew_spec_rounds.specs.Session.{IsSession}
use Rattle.chew_spec_program.specs.Slots.{Kept}

-- as a run begins, the disk tells its content and follows its rule, nothing is pending on it, and neither slot is refused:
-- they recover to this map and life
pub record BeginsWith (start : Dictionary) (disk : Kept) : Type 0 where
  pub told : disk.told ≡ true
  pub is_disk : IsDisk disk.before
  pub zero : IsSettled disk.before 0
  pub one : IsSettled disk.before 1
  pub recovers : recovered (disk.before.reads 0) (disk.before.reads 1) ≡ Recovered (record { life = start.life; rows = start.pairs })

-- at every moment since a run with these rounds began, a crash leaves slots that recover to the plain map after a front of
-- its history, which never gets shorter
abbrev pub NeverShorter : Dictionary → List Entry → List Round → Kept → Type 0
NeverShorter start journal rounds disk = IsSession start journal disk.before.moment disk.now rounds

-- recovery gives the plain map after the whole history, and its life, alone
abbrev pub IsWholeOnDisk : Dictionary → List Entry → Kept → Type 0
IsWholeOnDisk start journal disk = NowLeaves disk.now (RecoversTo (checkpoint_at (after (start_of start) journal)))

-- both of a run that ended with this status: the former always, and the latter where the status is 0
pub record IsKept (start : Dictionary) (journal : List Entry) (rounds : List Round) (status : ℕ) (disk : Kept) : Type 0 where
  pub never_shorter : BeginsWith start disk → NeverShorter start journal rounds disk
  pub whole : BeginsWith start disk → status ≡ 0 → IsWholeOnDisk start journal disk
