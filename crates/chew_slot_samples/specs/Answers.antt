-- What recovery and a checkpoint answer, as the tests see it.
use Rattle.std.specs.Prelude.{◌≡◌, Bool, true, false, Result, Ok, Err}
use Rattle.chew_spec_image.specs.Image.{image}
use Rattle.chew_spec_slots.specs.Recovery.{Recovery, Recovered, TooLarge, Damaged}
use Rattle.chew_slot_samples.specs.Known.{learnt_image, learnt_life}
use Rattle.chew_slot_samples.specs.declared.maps.Learnt.{Learnt}
use Rattle.chew_slot_samples.specs.declared.saving.SaveFault.{SaveFault}
use Rattle.chew_slot_samples.specs.declared.saving.SaveFault.TheVariants.{NoImage, NoMemory, Spent, Step, TooMany}

-- two slots recover to this map with its life, and are not refused
abbrev pub IsOf : Learnt → Recovery → Type 0
IsOf learnt (Recovered checkpoint) = (checkpoint.life ≡ learnt_life learnt) × (image checkpoint.rows ≡ learnt_image learnt)
IsOf learnt (TooLarge slot len) = ⊥
IsOf learnt (Damaged slot place) = ⊥

-- two slots are not refused
abbrev pub IsFine : Recovery → Type 0
IsFine (Recovered checkpoint) = Unit {0}
IsFine (TooLarge slot len) = ⊥
IsFine (Damaged slot place) = ⊥

-- whether a call of the disk failed in a checkpoint
abbrev pub step_failed : {T : Type 0} → Result T SaveFault → Bool
step_failed (Ok done) = false
step_failed (Err (Step step)) = true
step_failed (Err Spent) = false
step_failed (Err TooMany) = false
step_failed (Err NoImage) = false
step_failed (Err NoMemory) = false
