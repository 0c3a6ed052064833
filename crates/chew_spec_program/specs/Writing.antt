-- What a sink takes of a text that is written to it.
use Rattle.std.specs.Prelude.{◌≡◌, ℕ, ◌<◌, Bool, true, false, List, length, take, Option}
use Rattle.chew_spec_outside.specs.Faults.{Rose}
use Rattle.chew_spec_outside.specs.Sink.{appended}

-- a sink over a call: what it had taken and has taken now, where it tells it, and its count of faults before and now
pub record Sunk : Type 0 where
  pub before : Option (List ℕ)
  pub now : Option (List ℕ)
  pub faults_before : ℕ
  pub faults_now : ℕ

abbrev pub sunk : (before now : Option (List ℕ)) (faults_before faults_now : ℕ) → Sunk
sunk before now faults_before faults_now =
    record { before = before; now = now; faults_before = faults_before; faults_now = faults_now }

-- the sink took a front of the text: all of it, without a fault; or less, where it failed, which ended the writing
pub record Writes (sink : Sunk) (text : List ℕ) (failed : Bool) : Type 0 where
  pub count : ℕ
  pub took : sink.now ≡ appended sink.before (take count text)
  pub whole : failed ≡ false → count ≡ length text
  pub worked : failed ≡ false → sink.faults_now ≡ sink.faults_before
  pub cut : failed ≡ true → count < length text
  pub rose : failed ≡ true → Rose sink.faults_before sink.faults_now
