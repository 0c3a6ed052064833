-- The definition's cause that the code's ScriptCause stands for, and what a call gives unless memory is wanting.
use Rattle.std.specs.Prelude.{◌≡◌, ⊤, Result, Ok, Err}
use Rattle.chew_spec_text.specs.Script as spec
use Rattle.chew_script.specs.declared.fault.ScriptCause.{ScriptCause}
use Rattle.chew_script.specs.declared.fault.ScriptCause.TheVariants.{Size, Byte, Form, Context, Key, Keys, Rounds}
use Rattle.chew_script.specs.declared.fault.LineFault.{LineFault}
use Rattle.chew_script.specs.declared.fault.LineFault.TheVariants.{Bad, NoMemory}

-- the definition's cause
abbrev pub cause_of : ScriptCause → spec.ScriptCause
cause_of Size = spec.Size
cause_of Byte = spec.Byte
cause_of Form = spec.Form
cause_of Context = spec.Context
cause_of Key = spec.Key
cause_of Keys = spec.Keys
cause_of Rounds = spec.Rounds

-- the result is this outcome, unless memory was wanting
abbrev pub Gives : {V W : Type 0} → Result V LineFault → (V → W) → Result W spec.ScriptCause → Type 0
Gives (Ok value) view outcome = outcome ≡ Ok (view value)
Gives (Err (Bad cause)) view outcome = outcome ≡ Err (cause_of cause)
Gives (Err NoMemory) view outcome = ⊤
