-- What the keeper's rounds do one after the other: from one stage of the saving to a later one.
use Rattle.std.specs.Prelude.{◌≡◌, ◌↔◌, ◌+◌, ◌≤◌, ℕ, Bool, true, List, [], ◌∷◌, ◌++◌}
use Rattle.chew_spec_outside.specs.Faults.{HasCause}
use Rattle.chew_spec_disk.specs.Disk.{DiskState, IsDisk, Later}
use Rattle.chew_spec_dictionary.specs.Dictionary.{Dictionary}
use Rattle.chew_spec_dictionary.specs.History.{Entry, calls_of, is_legal, start_of}
use Rattle.chew_spec_layers.specs.Need.{Need, Waiting, Fresh, Nothing}
use Rattle.chew_spec_slots.specs.Keep.{Keep}
use Rattle.chew_spec_cell.specs.Pass.{Pass}
use Rattle.chew_spec_cell.specs.Sight.{HasSeen}
use Rattle.chew_spec_shared.specs.Needs.{IsNeed}
use Rattle.chew_spec_rounds.specs.InStep.{IsInStep}
use Rattle.chew_spec_rounds.specs.Round.{AreKeepersCalls, DiskFault, IsRound, KeepersCalls, NoMemory, Round, Saved, SeqSpent}
use Rattle.chew_spec_rounds.specs.Seq.{CountsSeq, saved_count}
use Rattle.chew_spec_rounds.specs.Session.{IsSession}
use Rattle.chew_spec_session.specs.LastRounds.{disk_faults, is_disk_fault}
use Rattle.chew_spec_session.specs.Session.{RoseBy}

-- a stage: what is known of the slots, the disk and its count of faults, and the history that the keeper has seen
pub record Stage : Type 1 where
  pub keep : Keep
  pub disk : DiskState
  pub faults : ℕ
  pub seen : List Entry

-- a stage by the keeper's pass
abbrev pub stage : Keep → DiskState → (faults : ℕ) → Pass → Stage
stage keep disk faults pass = record { keep = keep; disk = disk; faults = faults; seen = pass.seen }

-- a disk of which nothing was asked
pub record IsUntouched (before now : DiskState) : Type 0 where
  pub moment : now.moment ≡ before.moment
  pub reads : (slot : ℕ) → now.reads slot ≡ before.reads slot
  pub outcomes : (slot : ℕ) (list : List ℕ) → now.may_leave slot list ↔ before.may_leave slot list
  pub earlier : (moment slot : ℕ) (list : List ℕ) → now.might_have_left moment slot list ↔ before.might_have_left moment slot list

-- what is known of the slots is in step with what the keeper has seen of a legal history
pub record IsReady (start : Dictionary) (told : Bool) (at : Stage) : Type 0 where
  pub tells : told ≡ true
  pub in_step : IsInStep at.keep at.disk start at.seen
  pub legal : is_legal (start_of start) at.seen ≡ true

-- the keeper saw more of the history, in which it made the calls of these rounds
pub record Goes (rounds : List Round) (before now : List Entry) : Type 0 where
  pub more : List Entry
  pub joined : now ≡ before ++ more
  pub calls : AreKeepersCalls rounds (calls_of more 0)

-- the same of one round
pub record Calls (round : Round) (before now : List Entry) : Type 0 where
  pub more : List Entry
  pub joined : now ≡ before ++ more
  pub calls : KeepersCalls round (calls_of more 0)

-- a round led from one stage to another
pub record Makes (start : Dictionary) (told : Bool) (before : Stage) (round : Round) (now : Stage) : Type 0 where
  pub calls : Calls round before.seen now.seen
  pub counts : CountsSeq before.keep.seq now.keep.seq round
  pub cause : HasCause before.faults now.faults (is_disk_fault round)
  pub later : told ≡ true → Later before.disk now.disk
  pub is_disk : told ≡ true → IsDisk before.disk → IsDisk now.disk
  pub in_step : IsReady start told before → IsInStep now.keep now.disk start now.seen
  pub made : IsReady start told before → IsRound start before.seen now.seen before.disk now.disk round

-- the seq with which a round behind others began and ended
pub record CountsAt (seq : ℕ) (earlier : List Round) (round : Round) : Type 0 where
  pub here : ℕ
  pub then : ℕ
  pub counts : CountsSeq here then round
  pub sum : here ≡ seq + saved_count earlier

-- each round counted the seq up, from this one to that
pub record CountUp (seq : ℕ) (rounds : List Round) (seq_then : ℕ) : Type 0 where
  pub each : (earlier later : List Round) (round : Round) → rounds ≡ earlier ++ round ∷ later → CountsAt seq earlier round
  pub last : seq_then ≡ seq + saved_count rounds

-- a count of faults rose by the rounds in which the disk failed, and by nothing where it failed in none
pub record Rises (rounds : List Round) (before now : ℕ) : Type 0 where
  pub rose : RoseBy (disk_faults rounds) before now
  pub never_falls : before ≤ now
  pub calm : disk_faults rounds ≡ 0 → now ≡ before

-- the rounds so far left what a session leaves, and what is known of the slots is in step
pub record IsKept (start : Dictionary) (told : Bool) (from : ℕ) (rounds : List Round) (at : Stage) : Type 0 where
  pub ready : IsReady start told at
  pub session : IsSession start at.seen from at.disk rounds

-- rounds one after the other led from one stage to another
pub record MakeAll (start : Dictionary) (told : Bool) (before : Stage) (rounds : List Round) (now : Stage) : Type 0 where
  pub goes : Goes rounds before.seen now.seen
  pub counts : CountUp before.keep.seq rounds now.keep.seq
  pub rises : Rises rounds before.faults now.faults
  pub later : told ≡ true → Later before.disk now.disk
  pub is_disk : told ≡ true → IsDisk before.disk → IsDisk now.disk
  pub untouched : rounds ≡ [] → IsUntouched before.disk now.disk
  pub kept : (from : ℕ) (earlier : List Round) → is_legal (start_of start) now.seen ≡ true
      → IsKept start told from earlier before → IsKept start told from (earlier ++ rounds) now

-- the keeper asked what is needed: it saw more of the history, without an entry of its own, and found this
pub record Asks (start : Dictionary) (before : List Entry) (need : Need) (now : List Entry) : Type 0 where
  pub seen : HasSeen 0 before now
  pub found : IsNeed start now need

-- one round where it is needed that what changed is frozen, and none else
abbrev pub SavesChanges : Need → (before : List Entry) → List Round → (now : List Entry) → Type 0
SavesChanges Fresh before rounds now = (round : Round) × (rounds ≡ round ∷ []) × Calls round before now
SavesChanges Waiting before rounds now = (rounds ≡ []) × (now ≡ before)
SavesChanges Nothing before rounds now = (rounds ≡ []) × (now ≡ before)

-- what follows a round that saves what waited: where it was saved, what is needed then
abbrev pub GoOn : Dictionary → Round → (before : List Entry) → List Round → (now : List Entry) → Type 0
GoOn start (Saved number) before rounds now = (need : Need) × (asked : List Entry) × Asks start before need asked × SavesChanges need asked rounds now
GoOn start (DiskFault step) before rounds now = (rounds ≡ []) × (now ≡ before)
GoOn start NoMemory before rounds now = (rounds ≡ []) × (now ≡ before)
GoOn start (SeqSpent seq) before rounds now = (rounds ≡ []) × (now ≡ before)

-- the rounds by what is needed: what waits is saved first, and then what changed since
abbrev pub SaveBy : Dictionary → Need → (before : List Entry) → List Round → (now : List Entry) → Type 0
SaveBy start Waiting before rounds now =
    (round : Round) × (rest : List Round) × (next : List Entry) × (rounds ≡ round ∷ rest) × Calls round before next × GoOn start round next rest now
SaveBy start Fresh before rounds now = SavesChanges Fresh before rounds now
SaveBy start Nothing before rounds now = SavesChanges Nothing before rounds now

-- the last rounds
pub record SaveLast (start : Dictionary) (before : List Entry) (rounds : List Round) (now : List Entry) : Type 0 where
  pub need : Need
  pub asked : List Entry
  pub asks : Asks start before need asked
  pub saves : SaveBy start need asked rounds now
