-- What a write and a round answer, and what is known of the slots then.
use Rattle.std.specs.Prelude.{ℕ, ◌-◌, ◌≤◌, Bool, true, false, nat_le, Result, Ok, Err, if◌then◌else◌}
use Rattle.chew_spec_slots.specs.Keep.{Keep, advanced, with_shut}
use Rattle.chew_spec_rounds.specs.Round as spec
use Rattle.chew_checkpoint.specs.declared.fault.WriteFault.{WriteFault}
use Rattle.chew_checkpoint.specs.declared.fault.WriteFault.TheVariants as write
use Rattle.chew_checkpoint.specs.declared.round.Round.{Round}
use Rattle.chew_checkpoint.specs.declared.round.Round.TheVariants.{Saved, DiskFault, NoMemory, SeqSpent}

-- the definition's round that the code's stands for
abbrev pub round_of : Round → spec.Round
round_of (Saved number) = spec.Saved number
round_of (DiskFault step) = spec.DiskFault step
round_of NoMemory = spec.NoMemory
round_of (SeqSpent seq) = spec.SeqSpent seq

-- what a round tells of its writing
abbrev pub write_of : Round → Result ℕ WriteFault
write_of (Saved number) = Ok number
write_of (DiskFault step) = Err (write.DiskFault step)
write_of NoMemory = Err write.NoMemory
write_of (SeqSpent seq) = Err (write.SeqSpent seq)

-- a round that ends by a fault
abbrev pub round_for : WriteFault → Round
round_for (write.DiskFault step) = DiskFault step
round_for write.NoMemory = NoMemory
round_for (write.SeqSpent seq) = SeqSpent seq

-- the disk failed in a write, and in a round
abbrev pub write_failed : {T : Type 0} → Result T WriteFault → Bool
write_failed (Ok done) = false
write_failed (Err (write.DiskFault step)) = true
write_failed (Err write.NoMemory) = false
write_failed (Err (write.SeqSpent seq)) = false

abbrev pub round_failed : Round → Bool
round_failed round = write_failed (write_of round)

-- a write was refused before it called the disk
abbrev pub write_refused : {T : Type 0} → Result T WriteFault → Bool
write_refused (Ok done) = false
write_refused (Err (write.DiskFault step)) = false
write_refused (Err write.NoMemory) = true
write_refused (Err (write.SeqSpent seq)) = true

-- the steps up to one: those that shut the gate are not taken where it is surely shut
abbrev pub steps_up_to : (shut : Bool) → (step : ℕ) → ℕ
steps_up_to shut step = if shut then step - 2 else step

-- how many calls of the disk a write made
abbrev pub write_calls : {T : Type 0} → (shut : Bool) → Result T WriteFault → ℕ
write_calls shut (Ok done) = steps_up_to shut 6
write_calls shut (Err (write.DiskFault step)) = steps_up_to shut step
write_calls shut (Err write.NoMemory) = 0
write_calls shut (Err (write.SeqSpent seq)) = 0

-- a step that is taken, and so may fail
abbrev pub IsStep : (shut : Bool) → (step : ℕ) → Type 0
IsStep shut step = ((if shut then 3 else 1) ≤ step) × (step ≤ 6)

-- a fault of the disk tells such a step
abbrev pub FaultStep : {T : Type 0} → (shut : Bool) → Result T WriteFault → Type 0
FaultStep shut (Ok done) = Unit {0}
FaultStep shut (Err (write.DiskFault step)) = IsStep shut step
FaultStep shut (Err write.NoMemory) = Unit {0}
FaultStep shut (Err (write.SeqSpent seq)) = Unit {0}

-- what is known of the slots once a step failed: after 1 and 2 what was known, after 3 and 4 that the target's gate is surely
-- shut, and after 5 and 6 that it isn't
abbrev pub kept_at : Keep → (step : ℕ) → Keep
kept_at keep step = if nat_le step 2 then keep else with_shut keep keep.target (nat_le step 4)

-- what is known after a write
abbrev pub kept_after : {T : Type 0} → Keep → Result T WriteFault → Keep
kept_after keep (Ok done) = advanced keep
kept_after keep (Err (write.DiskFault step)) = kept_at keep step
kept_after keep (Err write.NoMemory) = keep
kept_after keep (Err (write.SeqSpent seq)) = keep
