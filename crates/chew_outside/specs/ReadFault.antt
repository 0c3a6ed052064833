-- What ended a bounded read.
use Rattle.std.specs.Prelude.{Bool, true, false, Result, Ok, Err}
use Rattle.chew_outside.specs.declared.source.ReadFault.{ReadFault}
use Rattle.chew_outside.specs.declared.source.ReadFault.TheVariants.{Failed, NoMemory}

-- whether the source failed
abbrev pub source_failed : {T : Type 0} → Result T ReadFault → Bool
source_failed (Ok value) = false
source_failed (Err Failed) = true
source_failed (Err NoMemory) = false
