-- How far a disk's moment rises in a step, and where a slot is read.
use Rattle.std.specs.Prelude.{ℕ, zero, suc, List, [], ◌∷◌}
use Rattle.chew_spec_outside.specs.Faults.{risen}

-- a moment so many calls later
abbrev pub after_calls : (calls moment : ℕ) → ℕ
after_calls zero moment = moment
after_calls (suc calls) moment = risen (after_calls calls moment)

-- the calls that read a slot: one asks its length, and another its bytes unless it is empty
abbrev pub reading_calls : List ℕ → ℕ
reading_calls [] = 1
reading_calls (byte ∷ bytes) = 2
