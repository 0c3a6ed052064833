-- What reads give may be left after each call.
use Rattle.std.specs.Prelude.{◌≡◌, ◌⊎◌, ℕ, true, false, List, length, Result, Ok, Err, is_err}
use Rattle.chew_spec_disk.specs.Disk.{DiskState, Stays}
use Rattle.chew_spec_disk.specs.Sync.{SyncAnswers, Syncs}
use Rattle.chew_spec_disk.specs.Write.{WriteAnswers, Writes, Wrote}

-- what an answer says, by whether it is a fault
pub write-failed : {T E : Type 0} (slot at : ℕ) (bytes : List ℕ) (before after : DiskState) (answer : Result T E) → WriteAnswers slot at bytes before after answer → is_err answer ≡ true
    → Writes slot at (length bytes) before after ⊎ Stays before after
write-failed slot at bytes before after (Ok x) says is = absurd cc
write-failed slot at bytes before after (Err e) says is = says

pub write-done : {T E : Type 0} (slot at : ℕ) (bytes : List ℕ) (before after : DiskState) (answer : Result T E) → WriteAnswers slot at bytes before after answer → is_err answer ≡ false
    → Wrote slot at bytes before after
write-done slot at bytes before after (Ok x) says is = says
write-done slot at bytes before after (Err e) says is = absurd cc

pub sync-failed : {T E : Type 0} (slot : ℕ) (before after : DiskState) (answer : Result T E) → SyncAnswers slot before after answer → is_err answer ≡ true → Stays before after
sync-failed slot before after (Ok x) says is = absurd cc
sync-failed slot before after (Err e) says is = says

pub sync-done : {T E : Type 0} (slot : ℕ) (before after : DiskState) (answer : Result T E) → SyncAnswers slot before after answer → is_err answer ≡ false → Syncs slot before after
sync-done slot before after (Ok x) says is = says
sync-done slot before after (Err e) says is = absurd cc
