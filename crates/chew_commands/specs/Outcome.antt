-- What a command made of its input, or want of memory.
use Rattle.std.specs.Prelude.{◌≡◌, ◌⊎◌, ℕ, List, Result, Ok, Err}
use Rattle.chew_spec_program.specs.Answer.{Gives}
use Rattle.chew_spec_program.specs.Reading.{Watched}
use Rattle.chew_spec_program.specs.Refusal.{Refusal, NoMemory}

-- what was read, as it is
abbrev pub itself : List ℕ → Result (List ℕ) Refusal
itself text = Ok text

-- the source was read and this is made of it, or memory was wanting
abbrev pub GivesOrNoMemory : (List ℕ → Result (List ℕ) Refusal) → Watched → Result (List ℕ) Refusal → Type 0
GivesOrNoMemory answer from given = Gives answer from given ⊎ (given ≡ Err NoMemory)
