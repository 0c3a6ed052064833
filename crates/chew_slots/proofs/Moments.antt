-- How far the moment rises in a call, and where a slot is read.
use Rattle.std.specs.Prelude.{◌≡◌, ℕ, ◌+◌, ◌≤◌, List, [], ◌∷◌, length, Result, Ok, Err}
use Rattle.std.proofs.Common.{arith, ap, ⊎_elim}
use Rattle.chew_spec_outside.specs.Faults.{risen}
use Rattle.chew_spec_disk.specs.Disk.{DiskState, Later, Stays}
use Rattle.chew_spec_disk.proofs.Moments.{later-chain}
use Rattle.chew_spec_disk.specs.Sync.{SyncAnswers}
use Rattle.chew_spec_disk.specs.Write.{WriteAnswers}
use Rattle.chew_slots.specs.Calls.{reading_calls}

pub write-rises : {T E : Type 0} (slot at : ℕ) (bytes : List ℕ) (before after : DiskState) (answer : Result T E) → WriteAnswers slot at bytes before after answer → after.moment ≡ risen before.moment
write-rises slot at bytes before after (Ok x) says = says.writes.passes.rises
write-rises slot at bytes before after (Err e) says = ⊎_elim (λ made. made.passes.rises) (λ stays. stays.passes.rises) says

pub sync-rises : {T E : Type 0} (slot : ℕ) (before after : DiskState) (answer : Result T E) → SyncAnswers slot before after answer → after.moment ≡ risen before.moment
sync-rises slot before after (Ok x) says = says.passes.rises
sync-rises slot before after (Err e) says = says.passes.rises

pub stays_calls : (before after : DiskState) → Stays before after → after.moment ≤ before.moment + 1
stays_calls before after stays = let rises = stays.passes.rises in omega arith

-- one call later, and two
pub write-later : {T E : Type 0} (slot at : ℕ) (bytes : List ℕ) (before after : DiskState) (answer : Result T E) → WriteAnswers slot at bytes before after answer → Later before after
write-later slot at bytes before after (Ok x) says = says.writes.passes.later
write-later slot at bytes before after (Err e) says = ⊎_elim (λ made. made.passes.later) (λ stays. stays.passes.later) says

pub sync-later : {T E : Type 0} (slot : ℕ) (before after : DiskState) (answer : Result T E) → SyncAnswers slot before after answer → Later before after
sync-later slot before after (Ok x) says = says.passes.later
sync-later slot before after (Err e) says = says.passes.later

pub both-later : {T E : Type 0} (slot at : ℕ) (bytes : List ℕ) (before now after : DiskState) (wrote synced : Result T E) → WriteAnswers slot at bytes before now wrote → SyncAnswers slot now after synced → Later before after
both-later slot at bytes before now after wrote synced says says′ = later-chain before now after (write-later slot at bytes before now wrote says) (sync-later slot now after synced says′)

-- a length alone is one call
pub length-calls : (list : List ℕ) (before after : ℕ) → after ≤ before + 1 → after ≤ before + reading_calls list
length-calls [] before after one = one
length-calls (byte ∷ bytes) before after one = omega arith

-- and the bytes are one more, unless there are none
pub slot-calls : (list : List ℕ) (len before middle after : ℕ) → len ≡ length list → middle ≤ before + 1 → after ≤ middle + 1 →
    (len ≡ 0 → after ≡ middle) → after ≤ before + reading_calls list
slot-calls [] len before middle after same asked read unread = let e = unread same in omega arith
slot-calls (byte ∷ bytes) len before middle after same asked read unread = omega arith

-- two slots, the second read where the first left the disk
pub both-calls : (before middle after : DiskState) → middle.moment ≤ before.moment + reading_calls (before.reads 0) → middle.reads 1 ≡ before.reads 1 →
    after.moment ≤ middle.moment + reading_calls (middle.reads 1) →
    after.moment ≤ before.moment + (reading_calls (before.reads 0) + reading_calls (before.reads 1))
both-calls before middle after first same second = let e = ap reading_calls same in omega arith
