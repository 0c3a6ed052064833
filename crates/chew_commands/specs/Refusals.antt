-- The refusals and outcomes of the definitions that the code's stand for.
use Rattle.std.specs.Prelude.{◌≡◌, ◌⊎◌, Result, Ok, Err}
use Rattle.chew_spec_program.specs.Refusal as spec
use Rattle.chew_outside.specs.declared.source.ReadFault.{ReadFault}
use Rattle.chew_outside.specs.declared.source.ReadFault.TheVariants as read
use Rattle.chew_rows.specs.Faults as row
use Rattle.chew_rows.specs.declared.cause.RowsFault.{RowsFault}
use Rattle.chew_rows.specs.declared.cause.RowsFault.TheVariants as rows
use Rattle.chew_trie_image.specs.declared.fault.ImageFault.{ImageFault}
use Rattle.chew_commands.specs.declared.refusal.Refusal.{Refusal}
use Rattle.chew_commands.specs.declared.refusal.Refusal.TheVariants.{WrongText, WrongImage, SourceFailed, NoMemory}

abbrev pub kind_of : Refusal → spec.Refusal
kind_of (WrongText line cause) = spec.WrongSystem (record { line = line; cause = row.cause_of cause })
kind_of (WrongImage place) = spec.WrongImage place
kind_of SourceFailed = spec.SourceFailed
kind_of NoMemory = spec.NoMemory

-- the refusals that the faults of the readers make
abbrev pub read_refusal : ReadFault → spec.Refusal
read_refusal read.Failed = spec.SourceFailed
read_refusal read.NoMemory = spec.NoMemory

abbrev pub text_refusal : RowsFault → spec.Refusal
text_refusal (rows.Bad line cause) = spec.WrongSystem (record { line = line; cause = row.cause_of cause })
text_refusal rows.NoMemory = spec.NoMemory

abbrev pub image_refusal : ImageFault → spec.Refusal
image_refusal fault = spec.WrongImage fault.place

-- an outcome, with its value seen this way
abbrev pub outcome_of : {X Y : Type 0} → (X → Y) → Result X Refusal → Result Y spec.Refusal
outcome_of view (Ok value) = Ok (view value)
outcome_of view (Err refusal) = Err (kind_of refusal)

-- memory was wanting, or the outcome is this
abbrev pub IsOrNoMemory : {X : Type 0} → Result X spec.Refusal → Result X spec.Refusal → Type 0
IsOrNoMemory wanted outcome = (outcome ≡ Err spec.NoMemory) ⊎ (outcome ≡ wanted)
