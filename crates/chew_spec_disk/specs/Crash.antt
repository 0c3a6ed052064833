-- What a crash of a disk in memory leaves of a slot, by a number that picks one of the lists that may be left.
use Rattle.std.specs.Prelude.{◌≡◌, ℕ, ◌+◌, Bool, false, ◌&&◌, ◌||◌, nat_le, nat_lt, List, [], ◌∷◌, length, take, replicate, if◌then◌else◌}
use Rattle.chew_spec_disk.specs.Memory.{Event, Written, Synced, SlotHistory, IsLeftAfter, reads_after, written}
use Rattle.chew_spec_disk.specs.Write.{Torn}

-- the byte with which written bytes are marked, which is also that of an open gate
abbrev pub mark : ℕ
mark = 0xA5

-- what the slot held at its last sync, or at first where it had none
abbrev pub synced_after : List ℕ → List Event → List ℕ
synced_after first [] = first
synced_after first (Written moment at bytes done ∷ older) = synced_after first older
synced_after first (Synced moment ∷ older) = reads_after first older

-- a list with marks over a range; where the write failed the list is no longer than before
abbrev pub with_marks : (at n : ℕ) → (done : Bool) → List ℕ → List ℕ
with_marks at n done list =
    let marks = written at (replicate n mark) list in
    if done then marks else take (length list) marks

-- what reads give, with a mark for each byte written since the last sync
abbrev pub marked_after : List ℕ → List Event → List ℕ
marked_after first [] = first
marked_after first (Written moment at bytes done ∷ older) = with_marks at (length bytes) done (marked_after first older)
marked_after first (Synced moment ∷ older) = reads_after first older

-- the byte at a place was written since the last sync
abbrev pub is_fresh : List ℕ → List Event → (place : ℕ) → Bool
is_fresh first [] place = false
is_fresh first (Written moment at bytes done ∷ older) place =
    (nat_le at place && nat_lt place (at + length bytes)) || (nat_lt place (length (reads_after first older)) && is_fresh first older place)
is_fresh first (Synced moment ∷ older) place = false

-- a list that the number picks: 0 what reads give, 1 what the slot held at its last sync, 2 what reads give with a mark
-- for each byte written since then, any other number any list that a crash may leave
pub record IsCrashOf (pick : ℕ) (history : SlotHistory) (list : List ℕ) : Type 0 where
  pub left : IsLeftAfter history.first history.events list
  pub kept : pick ≡ 0 → list ≡ reads_after history.first history.events
  pub lost : pick ≡ 1 → list ≡ synced_after history.first history.events
  pub marked : pick ≡ 2 → list ≡ marked_after history.first history.events

-- what the number picks of one write to a list
pub record IsTearOf (pick at : ℕ) (bytes : List ℕ) (done : Bool) (old new : List ℕ) : Type 0 where
  pub torn : Torn at (length bytes) old new
  pub kept : pick ≡ 0 → new ≡ (if done then written at bytes old else old)
  pub lost : pick ≡ 1 → new ≡ old
  pub marked : pick ≡ 2 → new ≡ with_marks at (length bytes) done old
