-- The answer of the definitions that the code's stands for.
use Rattle.std.specs.Prelude.{ℕ, List, Result, Ok, Err}
use Rattle.std.specs.Global.{Vec}
use Rattle.chew_spec_program.specs.Refusal as spec
use Rattle.chew_syllable.specs.declared.memory.NoMemory.{NoMemory}

-- a text, or that memory was wanting
abbrev pub answer_of : Result (Vec ℕ) NoMemory → Result (List ℕ) spec.Refusal
answer_of (Ok text) = Ok text.items
answer_of (Err refused) = Err spec.NoMemory
