-- What a command that reads one input answers: a text, or the line of a refusal.
use Rattle.std.specs.Prelude.{◌≡◌, ◌⊎◌, ℕ, Bool, List, Option, Some, None, Result, Ok, Err, if◌then◌else◌}
use Rattle.chew_spec_text.specs.DictionaryText.{system_limit}
use Rattle.chew_spec_program.specs.Reading.{IsRead, Watched}
use Rattle.chew_spec_program.specs.Refusal.{Refusal, NoMemory, SourceFailed, refusal_line, refusal_status}
use Rattle.chew_spec_program.specs.Writing.{Sunk, Writes}

-- what is made of what was read; of a source that failed nothing was
abbrev pub answer_to : (List ℕ → Result (List ℕ) Refusal) → Option (List ℕ) → Result (List ℕ) Refusal
answer_to answer None = Err SourceFailed
answer_to answer (Some text) = answer text

-- the source was read, up to a byte past 64 MiB, and this is what is made of it
pub record Gives (answer : List ℕ → Result (List ℕ) Refusal) (from : Watched) (given : Result (List ℕ) Refusal) : Type 0 where
  pub text : Option (List ℕ)
  pub read : IsRead from system_limit text
  pub gives : given ≡ answer_to answer text

-- the bytes that are written: the text, or the refusal's line
abbrev pub written : Result (List ℕ) Refusal → List ℕ
written (Ok text) = text
written (Err refusal) = refusal_line refusal

-- the status: 0, or 8 where the sink failed; that of a refusal stays where its line can't be written
abbrev pub answer_status : Result (List ℕ) Refusal → (failed : Bool) → ℕ
answer_status (Ok text) failed = if failed then 8 else 0
answer_status (Err refusal) failed = refusal_status refusal

-- an answer was written, and this is the status
pub record Tells (given : Result (List ℕ) Refusal) (sink : Sunk) (status : ℕ) : Type 0 where
  pub failed : Bool
  pub writes : Writes sink (written given) failed
  pub ends : status ≡ answer_status given failed

-- a command that makes such an answer of its input, or for which memory was wanting
pub record Answers (answer : List ℕ → Result (List ℕ) Refusal) (from : Watched) (sink : Sunk) (status : ℕ) : Type 0 where
  pub given : Result (List ℕ) Refusal
  pub made : Gives answer from given ⊎ (given ≡ Err NoMemory)
  pub tells : Tells given sink status
