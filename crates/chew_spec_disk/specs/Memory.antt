-- A disk in memory as it is seen: what each slot had at first, its writes and syncs, and counts.
use Rattle.std.specs.Prelude.{◌≡◌, ◌⊎◌, ℕ, ◌+◌, ◌-◌, ◌≤◌, Bool, true, false, not, ◌==◌, nat_le, nat_lt, List, [], ◌∷◌, ◌++◌, length, take, drop, replicate, if◌then◌else◌}
use Rattle.chew_spec_outside.specs.FailingCalls.{FailingCalls, names}
use Rattle.chew_spec_outside.specs.Faults.{risen}
use Rattle.chew_spec_outside.specs.Memory.{counted}
use Rattle.chew_spec_disk.specs.Disk.{DiskState, last_moment}
use Rattle.chew_spec_disk.specs.Write.{IsTornOf}

-- a call that is kept, with its moment: a write, done or failed, or a sync that was done
pub data Event : Type 0 where
  Written : (moment at : ℕ) → List ℕ → (done : Bool) → Event
  Synced : (moment : ℕ) → Event

-- a slot: what it had at first, and its events, the newest first
pub record SlotHistory : Type 0 where
  pub first : List ℕ
  pub events : List Event

abbrev pub moment_of : Event → ℕ
moment_of (Written moment at bytes done) = moment
moment_of (Synced moment) = moment

-- a list that has zeros up to an end where it is shorter
abbrev pub grown : (end : ℕ) → List ℕ → List ℕ
grown end list = list ++ replicate (end - length list) 0

-- a list with these bytes in place of those from a place on
abbrev pub pasted : (at : ℕ) → (bytes list : List ℕ) → List ℕ
pasted at bytes list = take at list ++ (bytes ++ drop (at + length bytes) list)

-- a list after these bytes were written from a place on
abbrev pub written : (at : ℕ) → (bytes list : List ℕ) → List ℕ
written at bytes list = pasted at bytes (grown (at + length bytes) list)

-- what reads give after these events
abbrev pub reads_after : List ℕ → List Event → List ℕ
reads_after first [] = first
reads_after first (Written moment at bytes done ∷ older) = if done then written at bytes (reads_after first older) else reads_after first older
reads_after first (Synced moment ∷ older) = reads_after first older

-- what a crash may leave after these events: a write, done or failed, tears what might be left before it, and a sync
-- leaves what reads give
abbrev pub IsLeftAfter : List ℕ → List Event → List ℕ → Type 0
IsLeftAfter first [] list = list ≡ first
IsLeftAfter first (Written moment at bytes done ∷ older) list = IsTornOf at (length bytes) (IsLeftAfter first older) list
IsLeftAfter first (Synced moment ∷ older) list = list ≡ reads_after first older

-- the events up to a moment
abbrev pub events_until : ℕ → List Event → List Event
events_until moment [] = []
events_until moment (event ∷ older) = if nat_le (moment_of event) moment then event ∷ older else events_until moment older

-- a slot after one more event
abbrev pub with_event : SlotHistory → Event → SlotHistory
with_event history event = record { first = history.first; events = event ∷ history.events }

-- the newest event is a write, so that the slot was written since its last sync
abbrev pub is_written : List Event → Bool
is_written [] = false
is_written (Written moment at bytes done ∷ older) = true
is_written (Synced moment ∷ older) = false

-- a slot after a sync, which is kept only where the slot was written since the last one
abbrev pub with_sync : SlotHistory → (moment : ℕ) → SlotHistory
with_sync history moment = if is_written history.events then with_event history (Synced moment) else history

-- no event is later than a moment
abbrev pub IsUpTo : (moment : ℕ) → List Event → Type 0
IsUpTo moment [] = Unit {0}
IsUpTo moment (event ∷ older) = moment_of event ≤ moment

-- a disk: its slots, the calls that fail, and the counts of calls, of faults and of the writes whose growth was refused
pub record MemoryDisk : Type 0 where
  pub zero : SlotHistory
  pub one : SlotHistory
  pub fails : FailingCalls
  pub calls : ℕ
  pub faults : ℕ
  pub refused : ℕ

-- the history of a slot
abbrev pub history_of : MemoryDisk → ℕ → SlotHistory
history_of disk slot = if slot == 0 then disk.zero else (if slot == 1 then disk.one else record { first = []; events = [] })

-- the events of a slot up to a moment, all of them at the last call's
abbrev pub events_at : MemoryDisk → (moment slot : ℕ) → List Event
events_at disk moment slot =
    let events = (history_of disk slot).events in
    if nat_lt moment disk.calls then events_until moment events else events

-- a disk whose slot has this history
abbrev pub with_history : MemoryDisk → (slot : ℕ) → SlotHistory → MemoryDisk
with_history disk slot history = if slot == 0 then record disk { zero = history } else record disk { one = history }

-- a disk after one more call, that changes no slot
abbrev pub called : (failed refused : Bool) → MemoryDisk → MemoryDisk
called failed refused disk = record disk { calls = risen disk.calls; faults = counted failed disk.faults; refused = counted refused disk.refused }

-- the next call is one that fails
abbrev pub fails_next : MemoryDisk → Bool
fails_next disk = names disk.fails (risen disk.calls)

-- a disk after a write, done or failed, that was kept
abbrev pub after_write : MemoryDisk → (slot at : ℕ) → List ℕ → MemoryDisk
after_write disk slot at bytes =
    with_history (called (fails_next disk) false disk) slot
    (with_event (history_of disk slot) (Written (risen disk.calls) at bytes (not (fails_next disk))))

-- a write fails where it is named and is kept all the same, or where memory for it is refused, and then it changed nothing
abbrev pub MemoryWrites : (slot at : ℕ) → List ℕ → (before after : MemoryDisk) → (failed : Bool) → Type 0
MemoryWrites slot at bytes before after failed =
    ((failed ≡ fails_next before) × (after ≡ after_write before slot at bytes)) ⊎ ((failed ≡ true) × (after ≡ called true true before))

-- a disk after a sync, which fails exactly where it is named
abbrev pub after_sync : MemoryDisk → (slot : ℕ) → MemoryDisk
after_sync disk slot =
    if fails_next disk then called true false disk
    else with_history (called false false disk) slot (with_sync (history_of disk slot) (risen disk.calls))

-- its counts are of their type, and no event is later than its last call
pub record IsSound (disk : MemoryDisk) : Type 0 where
  pub calls : disk.calls ≤ last_moment
  pub faults : disk.faults ≤ last_moment
  pub in_time : (slot : ℕ) → IsUpTo disk.calls (history_of disk slot).events

-- what it tells: its moment is its number of calls
abbrev pub disk_state : MemoryDisk → DiskState
disk_state disk = record {
  moment = disk.calls;
  reads = λ slot. reads_after (history_of disk slot).first (history_of disk slot).events;
  may_leave = λ slot. IsLeftAfter (history_of disk slot).first (history_of disk slot).events;
  might_have_left = λ moment slot. IsLeftAfter (history_of disk slot).first (events_at disk moment slot);
}

-- a disk before its first call
abbrev pub new_disk : (zero one : List ℕ) → FailingCalls → MemoryDisk
new_disk zero one fails = record {
  zero = record { first = zero; events = [] };
  one = record { first = one; events = [] };
  fails = fails;
  calls = 0;
  faults = 0;
  refused = 0;
}
