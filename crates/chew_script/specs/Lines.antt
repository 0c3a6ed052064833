-- What the code's ScriptLine says, and the contexts that a line of keys adds to.
use Rattle.std.specs.Prelude.{ℕ, ◌-◌, ◌≤◌, ⊤, List, length, Option, Some, Result, Ok, Err}
use Rattle.std.specs.Option.{ok_or, option_map}
use Rattle.chew_spec_text.specs.KeyStroke.{KeyStroke, keys_in}
use Rattle.chew_spec_text.specs.Script as spec
use Rattle.chew_spec_text.specs.Script.{add_keys, key_line}
use Rattle.chew_script.specs.Faults.{cause_of}
use Rattle.chew_script.specs.declared.fault.ScriptCause.{ScriptCause}
use Rattle.chew_script.specs.declared.script_line.ScriptLine.{ScriptLine}
use Rattle.chew_script.specs.declared.script_line.ScriptLine.TheVariants.{Nothing, Round, Keys}

-- the outcome of a line, once its keys are read
abbrev pub line_says : Result ScriptLine ScriptCause → Result spec.ScriptLine spec.ScriptCause
line_says (Ok Nothing) = Ok spec.Nothing
line_says (Ok Round) = Ok spec.Round
line_says (Ok (Keys number text)) = key_line (Some number) (keys_in text.now)
line_says (Err cause) = Err (cause_of cause)

-- a line of keys names one of the contexts 1 to 16
abbrev pub HasNumber : ScriptLine → Type 0
HasNumber (Keys number text) = (1 ≤ number) × (number ≤ 16)
HasNumber _ = ⊤

-- the contexts with these keys behind those of this number, and how many they are; else a '<' begins no name
abbrev pub added : ℕ → Option (List KeyStroke) → List (List KeyStroke) → Result (List (List KeyStroke) × ℕ) spec.ScriptCause
added number keys contexts = ok_or (option_map (λ more. (add_keys (number - 1) more contexts, length more)) keys) spec.Key
