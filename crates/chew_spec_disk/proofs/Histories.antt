-- What a disk in memory tells after one more call.
use Rattle.std.specs.Prelude.{◌≡◌, ◌≢◌, ℕ, ◌<◌, ◌≤◌, Bool, true, false, nat_le, nat_lt, List, [], ◌∷◌, length, ◌↔◌, if◌then◌else◌, cond, refl}
use Rattle.std.proofs.Common.{arith, true≢false, sym, ap, ◌∙◌, subst, ⊎_elim}
use Rattle.std.proofs.lemmas.Bool.{cases_eq, cases_lt}
use Rattle.std.proofs.lemmas.Bool.Decides.{nat_tests}
use Rattle.chew_spec_outside.specs.Faults.{risen}
use Rattle.chew_spec_disk.specs.Disk.{IsDisk, Passes, Stays}
use Rattle.chew_spec_disk.specs.Sync.{Syncs}
use Rattle.chew_spec_disk.specs.Write.{Holds, Torn, Writes, Wrote}
use Rattle.chew_spec_disk.specs.Memory.{Event, Written, Synced, SlotHistory, MemoryDisk, IsLeftAfter, IsSound, IsUpTo, disk_state, is_written, with_event, with_sync, events_at, events_until, history_of, moment_of, reads_after}
use Rattle.chew_spec_disk.proofs.Written.{holds-written, torn-written, torn-same}

-- what reads give may be left
pub reads-left : (first : List ℕ) (events : List Event) → IsLeftAfter first events (reads_after first events)
reads-left first [] = refl
reads-left first (Written moment at bytes true ∷ older) = (reads_after first older, reads-left first older, torn-written at bytes (reads_after first older))
reads-left first (Written moment at bytes false ∷ older) = (reads_after first older, reads-left first older, torn-same at (length bytes) (reads_after first older))
reads-left first (Synced moment ∷ older) = refl

test-below : (m n : ℕ) → m < n → nat_lt m n ≡ true
test-below m n h = grind (arith, nat_tests)

test-not-below : (m n : ℕ) → n ≤ m → nat_lt m n ≡ false
test-not-below m n h = grind (arith, nat_tests)

test-above : (m n : ℕ) → n < m → nat_le m n ≡ false
test-above m n h = grind (arith, nat_tests)

test-within : (m n : ℕ) → m ≤ n → nat_le m n ≡ true
test-within m n h = grind (arith, nat_tests)

-- a disk in memory is a disk
pub memory_is_disk : (disk : MemoryDisk) → IsDisk (disk_state disk)
memory_is_disk disk = record {
  reads_may_be_left = λ slot. reads-left (history_of disk slot).first (history_of disk slot).events;
  this_moment = λ under slot list.
      let here : events_at disk disk.calls slot ≡ (history_of disk slot).events = ap (λ b. cond b (events_until disk.calls (history_of disk slot).events) (history_of disk slot).events) (test-not-below disk.calls disk.calls (omega arith)) in
      (λ h. subst (λ events. IsLeftAfter (history_of disk slot).first events list) here h, λ h. subst (λ events. IsLeftAfter (history_of disk slot).first events list) (sym here) h);
}

until-all : (moment : ℕ) (events : List Event) → IsUpTo moment events → events_until moment events ≡ events
until-all moment [] up_to = refl
until-all moment (event ∷ older) up_to = ap (λ b. cond b (event ∷ older) (events_until moment older)) (test-within (moment_of event) moment up_to)

pub until-newer : (moment : ℕ) (event : Event) (older : List Event) → moment < moment_of event → events_until moment (event ∷ older) ≡ events_until moment older
until-newer moment event older newer = ap (λ b. cond b (event ∷ older) (events_until moment older)) (test-above (moment_of event) moment newer)

-- the events at a moment before a further call
at-earlier : (disk : MemoryDisk) (moment slot : ℕ) → IsUpTo disk.calls (history_of disk slot).events → moment ≤ disk.calls → events_at disk moment slot ≡ events_until moment (history_of disk slot).events
at-earlier disk moment slot up_to early =
    let events = (history_of disk slot).events in
    ⊎_elim
    (λ below. ap (λ b. cond b (events_until moment events) events) (test-below moment disk.calls below))
    (λ at. ap (λ b. cond b (events_until moment events) events) (test-not-below moment disk.calls at)
    ∙ sym (until-all moment events (subst (λ (m : ℕ). IsUpTo m events) (let e : disk.calls ≡ moment = omega arith in e) up_to)))
    (cases_lt moment disk.calls)

at-earlier-then : (disk : MemoryDisk) (moment slot : ℕ) → moment < disk.calls → events_at disk moment slot ≡ events_until moment (history_of disk slot).events
at-earlier-then disk moment slot early =
    ap (λ b. cond b (events_until moment (history_of disk slot).events) (history_of disk slot).events) (test-below moment disk.calls early)

left-same : (first first′ : List ℕ) (events events′ : List Event) (list : List ℕ) → first ≡ first′ → events ≡ events′ → IsLeftAfter first events list ↔ IsLeftAfter first′ events′ list
left-same first first′ events events′ list p q = (
  λ h. subst (λ f. IsLeftAfter f events′ list) p (subst (λ es. IsLeftAfter first es list) q h),
  λ h. subst (λ es. IsLeftAfter first es list) (sym q) (subst (λ f. IsLeftAfter f events′ list) (sym p) h),
)

-- a slot after a call that may have added an event at this moment
record Grows (before after : SlotHistory) (calls : ℕ) : Type 0 where
  first : before.first ≡ after.first
  earlier : (moment : ℕ) → moment < calls → events_until moment before.events ≡ events_until moment after.events

grows-same : (before after : SlotHistory) (calls : ℕ) → after ≡ before → Grows before after calls
grows-same before after calls same = record {
  first = ap (λ (h : SlotHistory). h.first) (sym same);
  earlier = λ moment early. ap (λ (h : SlotHistory). events_until moment h.events) (sym same);
}

grows-event : (before after : SlotHistory) (event : Event) (calls : ℕ) → after ≡ with_event before event → moment_of event ≡ calls → Grows before after calls
grows-event before after event calls is at = record {
  first = ap (λ (h : SlotHistory). h.first) (sym is);
  earlier = λ moment early. sym (ap (λ (h : SlotHistory). events_until moment h.events) is ∙ until-newer moment event before.events (omega arith));
}

-- time goes on
passes-after : (before after : MemoryDisk) → after.calls ≡ risen before.calls → IsSound before
    → ((slot : ℕ) → Grows (history_of before slot) (history_of after slot) after.calls) → Passes (disk_state before) (disk_state after)
passes-after before after rises is grows = record {
  rises = rises;
  later = record {
    not_before = omega (arith, is.calls);
    earlier = λ under moment slot list early.
        let newer : moment < after.calls = omega arith in
        left-same (history_of before slot).first (history_of after slot).first (events_at before moment slot) (events_at after moment slot) list
        (grows slot).first
        (at-earlier before moment slot (is.in_time slot) early ∙ (grows slot).earlier moment newer ∙ sym (at-earlier-then after moment slot newer));
  };
}

-- a call that changes no slot
pub stays-after : (before after : MemoryDisk) → IsSound before → after.calls ≡ risen before.calls
    → ((slot : ℕ) → history_of after slot ≡ history_of before slot) → Stays (disk_state before) (disk_state after)
stays-after before after is rises same = record {
  passes = passes-after before after rises is (λ slot. grows-same (history_of before slot) (history_of after slot) after.calls (same slot));
  reads = λ slot. ap (λ (h : SlotHistory). reads_after h.first h.events) (same slot);
  outcomes = λ slot list. left-same (history_of after slot).first (history_of before slot).first (history_of after slot).events (history_of before slot).events list
      (ap (λ (h : SlotHistory). h.first) (same slot)) (ap (λ (h : SlotHistory). h.events) (same slot));
}

grows-slot : (before after : MemoryDisk) (slot : ℕ) (event : Event) → moment_of event ≡ after.calls → history_of after slot ≡ with_event (history_of before slot) event
    → ((other : ℕ) → other ≢ slot → history_of after other ≡ history_of before other) → (each : ℕ) → Grows (history_of before each) (history_of after each) after.calls
grows-slot before after slot event at own others each =
    ⊎_elim
    (λ same. subst (λ (s : ℕ). Grows (history_of before s) (history_of after s) after.calls) (sym same) (grows-event (history_of before slot) (history_of after slot) event after.calls own at))
    (λ apart. grows-same (history_of before each) (history_of after each) after.calls (others each apart))
    (cases_eq each slot)

-- a write, done or failed, that is kept
pub writes-after : (before after : MemoryDisk) (slot at : ℕ) (bytes : List ℕ) (done : Bool) → IsSound before → after.calls ≡ risen before.calls
    → history_of after slot ≡ with_event (history_of before slot) (Written after.calls at bytes done)
    → ((other : ℕ) → other ≢ slot → history_of after other ≡ history_of before other)
    → Torn at (length bytes) (reads_after (history_of before slot).first (history_of before slot).events) (reads_after (history_of before slot).first (Written after.calls at bytes done ∷ (history_of before slot).events))
    → Writes slot at (length bytes) (disk_state before) (disk_state after)
writes-after before after slot at bytes done is rises own others torn =
    let h = history_of before slot in
    let event : Event = Written after.calls at bytes done in
    record {
      passes = passes-after before after rises is (grows-slot before after slot event refl own others);
      read = subst (λ (h′ : SlotHistory). Torn at (length bytes) (reads_after h.first h.events) (reads_after h′.first h′.events)) (sym own) torn;
      other_read = λ other apart. ap (λ (h′ : SlotHistory). reads_after h′.first h′.events) (others other apart);
      outcomes = λ list. left-same (history_of after slot).first h.first (history_of after slot).events (event ∷ h.events) list
          (ap (λ (h′ : SlotHistory). h′.first) own) (ap (λ (h′ : SlotHistory). h′.events) own);
      other_outcomes = λ other list apart. left-same (history_of after other).first (history_of before other).first (history_of after other).events (history_of before other).events list
          (ap (λ (h′ : SlotHistory). h′.first) (others other apart)) (ap (λ (h′ : SlotHistory). h′.events) (others other apart));
    }

-- a write that was done
pub wrote-after : (before after : MemoryDisk) (slot at : ℕ) (bytes : List ℕ) → IsSound before → after.calls ≡ risen before.calls
    → history_of after slot ≡ with_event (history_of before slot) (Written after.calls at bytes true)
    → ((other : ℕ) → other ≢ slot → history_of after other ≡ history_of before other)
    → Wrote slot at bytes (disk_state before) (disk_state after)
wrote-after before after slot at bytes is rises own others =
    let h = history_of before slot in
    let reads = reads_after h.first h.events in
    record {
      writes = writes-after before after slot at bytes true is rises own others (torn-written at bytes reads);
      holds = subst (λ (h′ : SlotHistory). Holds at bytes reads (reads_after h′.first h′.events)) (sym own) (holds-written at bytes reads);
    }

-- a write that failed and is kept
pub failed-after : (before after : MemoryDisk) (slot at : ℕ) (bytes : List ℕ) → IsSound before → after.calls ≡ risen before.calls
    → history_of after slot ≡ with_event (history_of before slot) (Written after.calls at bytes false)
    → ((other : ℕ) → other ≢ slot → history_of after other ≡ history_of before other)
    → Writes slot at (length bytes) (disk_state before) (disk_state after)
failed-after before after slot at bytes is rises own others =
    let h = history_of before slot in
    writes-after before after slot at bytes false is rises own others (torn-same at (length bytes) (reads_after h.first h.events))

-- a slot that was not written since its last sync may leave what reads give alone
settled-unwritten : (first : List ℕ) (events : List Event) → is_written events ≡ false → (list : List ℕ) → IsLeftAfter first events list ↔ (list ≡ reads_after first events)
settled-unwritten first [] unwritten list = (λ h. h, λ h. h)
settled-unwritten first (Written moment at bytes done ∷ older) unwritten list = absurd (true≢false unwritten)
settled-unwritten first (Synced moment ∷ older) unwritten list = (λ h. h, λ h. h)

-- a slot after a sync
record SyncsSlot (before after : SlotHistory) : Type 0 where
  reads : reads_after after.first after.events ≡ reads_after before.first before.events
  settled : (list : List ℕ) → IsLeftAfter after.first after.events list ↔ (list ≡ reads_after after.first after.events)

with_sync-by : (history : SlotHistory) (moment : ℕ) (b : Bool) → is_written history.events ≡ b → SyncsSlot history (if b then with_event history (Synced moment) else history)
with_sync-by history moment true is = record { reads = refl; settled = λ list. (λ h. h, λ h. h) }
with_sync-by history moment false is = record { reads = refl; settled = settled-unwritten history.first history.events is }

grows-sync : (history : SlotHistory) (moment : ℕ) (b : Bool) → Grows history (if b then with_event history (Synced moment) else history) moment
grows-sync history moment true = grows-event history (with_event history (Synced moment)) (Synced moment) moment refl refl
grows-sync history moment false = grows-same history history moment refl

-- a sync that was done
pub syncs-after : (before after : MemoryDisk) (slot : ℕ) → IsSound before → after.calls ≡ risen before.calls
    → history_of after slot ≡ with_sync (history_of before slot) after.calls
    → ((other : ℕ) → other ≢ slot → history_of after other ≡ history_of before other)
    → Syncs slot (disk_state before) (disk_state after)
syncs-after before after slot is rises own others =
    let h = history_of before slot in
    let one : SyncsSlot h (history_of after slot) = subst (λ (h′ : SlotHistory). SyncsSlot h h′) (sym own) (with_sync-by h after.calls (is_written h.events) refl) in
    let grows : Grows h (history_of after slot) after.calls = subst (λ (h′ : SlotHistory). Grows h h′ after.calls) (sym own) (grows-sync h after.calls (is_written h.events)) in
    record {
      passes = passes-after before after rises is (λ each.
          ⊎_elim
          (λ same. subst (λ (s : ℕ). Grows (history_of before s) (history_of after s) after.calls) (sym same) grows)
          (λ apart. grows-same (history_of before each) (history_of after each) after.calls (others each apart))
          (cases_eq each slot));
      reads = λ each.
          ⊎_elim
          (λ same. subst (λ (s : ℕ). reads_after (history_of after s).first (history_of after s).events ≡ reads_after (history_of before s).first (history_of before s).events) (sym same) one.reads)
          (λ apart. ap (λ (h′ : SlotHistory). reads_after h′.first h′.events) (others each apart))
          (cases_eq each slot);
      settled = one.settled;
      other_outcomes = λ other list apart. left-same (history_of after other).first (history_of before other).first (history_of after other).events (history_of before other).events list
          (ap (λ (h′ : SlotHistory). h′.first) (others other apart)) (ap (λ (h′ : SlotHistory). h′.events) (others other apart));
    }
