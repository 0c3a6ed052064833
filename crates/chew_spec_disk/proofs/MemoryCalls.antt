-- What each call of a disk in memory does to what it tells.
use Rattle.std.specs.Prelude.{◌≡◌, ◌≢◌, ◌⊎◌, ℕ, zero, suc, ◌<◌, Bool, true, false, not, List, [], length, cond, Result, Ok, Err, is_err, refl}
use Rattle.std.proofs.Common.{arith, eqb, true≢false, sym, ap, ◌∙◌, inl, inr, ⊎_elim}
use Rattle.std.proofs.lemmas.Bool.Decides.{nat_tests}
use Rattle.chew_spec_outside.specs.Faults.{risen}
use Rattle.chew_spec_disk.specs.Disk.{Stays}
use Rattle.chew_spec_disk.specs.Memory.{Written, SlotHistory, MemoryDisk, MemoryWrites, IsSound, after_write, called, disk_state, fails_next, history_of, with_event, with_history}
use Rattle.chew_spec_disk.specs.Write.{WriteAnswers, Writes, Wrote}
use Rattle.chew_spec_disk.proofs.Histories.{failed-after, stays-after, wrote-after}

-- a call that changes no slot
pub stays-called : (before after : MemoryDisk) (failed refused : Bool) → IsSound before → after ≡ called failed refused before → Stays (disk_state before) (disk_state after)
stays-called before after failed refused is same =
    stays-after before after is (ap (λ (d : MemoryDisk). d.calls) same) (λ slot. ap (λ (d : MemoryDisk). history_of d slot) same)

-- there are two slots
pub two-slots : (P : ℕ → Type 0) → P 0 → P 1 → (slot : ℕ) → slot < 2 → P slot
two-slots P zero′ one′ zero low = zero′
two-slots P zero′ one′ (suc zero) low = one′
two-slots P zero′ one′ (suc (suc n)) low = absurd (omega arith)

own-history : (disk : MemoryDisk) (history : SlotHistory) (slot : ℕ) → slot < 2 → history_of (with_history disk slot history) slot ≡ history
own-history disk history = two-slots (λ slot. history_of (with_history disk slot history) slot ≡ history) refl refl

apart-test : (other slot : ℕ) → other ≢ slot → eqb other slot ≡ false
apart-test other slot apart = grind (arith, nat_tests)

other-histories : (disk : MemoryDisk) (history : SlotHistory) (slot : ℕ) → slot < 2 → (other : ℕ) → other ≢ slot → history_of (with_history disk slot history) other ≡ history_of disk other
other-histories disk history = two-slots
    (λ slot. (other : ℕ) → other ≢ slot → history_of (with_history disk slot history) other ≡ history_of disk other)
    (λ other apart.
    let none : SlotHistory = record { first = []; events = [] } in
    ap (λ b. cond b history (cond (eqb other 1) disk.one none)) (apart-test other 0 apart)
    ∙ sym (ap (λ b. cond b disk.zero (cond (eqb other 1) disk.one none)) (apart-test other 0 apart)))
    (λ other apart.
    let none : SlotHistory = record { first = []; events = [] } in
    ap (λ b. cond (eqb other 0) disk.zero (cond b history none)) (apart-test other 1 apart)
    ∙ sym (ap (λ b. cond (eqb other 0) disk.zero (cond b disk.one none)) (apart-test other 1 apart)))

calls-with : (disk : MemoryDisk) (history : SlotHistory) (slot : ℕ) → slot < 2 → (with_history disk slot history).calls ≡ disk.calls
calls-with disk history = two-slots (λ slot. (with_history disk slot history).calls ≡ disk.calls) refl refl

-- a disk of which one slot got an event in a call
record Extends (before after : MemoryDisk) (slot : ℕ) (history : SlotHistory) : Type 0 where
  rises : after.calls ≡ risen before.calls
  own : history_of after slot ≡ history
  others : (other : ℕ) → other ≢ slot → history_of after other ≡ history_of before other

extends : (before after : MemoryDisk) (failed refused : Bool) (slot : ℕ) (history : SlotHistory) → slot < 2
    → after ≡ with_history (called failed refused before) slot history → Extends before after slot history
extends before after failed refused slot history low is = record {
  rises = ap (λ (d : MemoryDisk). d.calls) is ∙ calls-with (called failed refused before) history slot low;
  own = ap (λ (d : MemoryDisk). history_of d slot) is ∙ own-history (called failed refused before) history slot low;
  others = λ other apart. ap (λ (d : MemoryDisk). history_of d other) is ∙ other-histories (called failed refused before) history slot low other apart;
}

written-as : (before after : MemoryDisk) (slot at : ℕ) (bytes : List ℕ) (fails : Bool) → fails_next before ≡ fails → slot < 2
    → after ≡ after_write before slot at bytes → Extends before after slot (with_event (history_of before slot) (Written (risen before.calls) at bytes (not fails)))
written-as before after slot at bytes fails named low is =
    extends before after fails false slot (with_event (history_of before slot) (Written (risen before.calls) at bytes (not fails))) low
    (is ∙ ap (λ b. with_history (called b false before) slot (with_event (history_of before slot) (Written (risen before.calls) at bytes (not b)))) named)

-- the moment of its event is that of the call
own-event : (before after : MemoryDisk) (slot at : ℕ) (bytes : List ℕ) (done : Bool) → Extends before after slot (with_event (history_of before slot) (Written (risen before.calls) at bytes done))
    → history_of after slot ≡ with_event (history_of before slot) (Written after.calls at bytes done)
own-event before after slot at bytes done e = e.own ∙ ap (λ m. with_event (history_of before slot) (Written m at bytes done)) (sym e.rises)

-- a write that was done
pub wrote-memory : (before after : MemoryDisk) (slot at : ℕ) (bytes : List ℕ) (failed : Bool) → slot < 2 → IsSound before → failed ≡ false
    → MemoryWrites slot at bytes before after failed → Wrote slot at bytes (disk_state before) (disk_state after)
wrote-memory before after slot at bytes failed low is worked writes =
    ⊎_elim
    (λ kept.
    let e = written-as before after slot at bytes false (sym kept.0 ∙ worked) low kept.1 in
    wrote-after before after slot at bytes is e.rises (own-event before after slot at bytes true e) e.others)
    (λ refused. absurd (true≢false (sym refused.0 ∙ worked)))
    writes

-- a write that failed
pub failed-memory : (before after : MemoryDisk) (slot at : ℕ) (bytes : List ℕ) (failed : Bool) → slot < 2 → IsSound before → failed ≡ true
    → MemoryWrites slot at bytes before after failed → Writes slot at (length bytes) (disk_state before) (disk_state after) ⊎ Stays (disk_state before) (disk_state after)
failed-memory before after slot at bytes failed low is fault writes =
    ⊎_elim
    (λ kept.
    let e = written-as before after slot at bytes true (sym kept.0 ∙ fault) low kept.1 in
    inl (failed-after before after slot at bytes is e.rises (own-event before after slot at bytes false e) e.others))
    (λ refused. inr (stays-called before after true true is refused.1))
    writes

-- what a write's answer says
pub write-answers : {T E : Type 0} (before after : MemoryDisk) (slot at : ℕ) (bytes : List ℕ) (answer : Result T E) → slot < 2 → IsSound before
    → MemoryWrites slot at bytes before after (is_err answer) → WriteAnswers slot at bytes (disk_state before) (disk_state after) answer
write-answers before after slot at bytes (Ok done) low is writes = wrote-memory before after slot at bytes false low is refl writes
write-answers before after slot at bytes (Err fault) low is writes = failed-memory before after slot at bytes true low is refl writes
