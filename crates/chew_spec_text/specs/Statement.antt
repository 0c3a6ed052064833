-- What a line of a script says, by itself.
use Rattle.std.specs.Prelude.{ℕ, Bool, true, false, not, ◌||◌, List, [], length, ◌==◌, codes, nat_eq, Result, Ok, if◌then◌else◌}
use Rattle.std.specs.List.{starts_with}
use Rattle.chew_spec_text.specs.KeyStroke.{KeyStroke}
use Rattle.chew_spec_text.specs.Script.{ScriptLine, ScriptCause, Round, KeyLine, script_line}

-- the keys that are for the context of this number
abbrev pub keys_in_said : ℕ → Result ScriptLine ScriptCause → List KeyStroke
keys_in_said number (Ok (KeyLine context keys)) = if context == number then keys else []
keys_in_said number _ = []

-- the same by the line
abbrev pub keys_for : ℕ → List ℕ → List KeyStroke
keys_for number line = keys_in_said number (script_line line)

-- the number of the context that the line has keys for, or 0
abbrev pub context_in_said : Result ScriptLine ScriptCause → ℕ
context_in_said (Ok (KeyLine context keys)) = context
context_in_said _ = 0

-- the same by the line
abbrev pub context_of : List ℕ → ℕ
context_of line = context_in_said (script_line line)

-- the line asks for a round
abbrev pub is_round_said : Result ScriptLine ScriptCause → Bool
is_round_said (Ok Round) = true
is_round_said _ = false

-- the same by the line
abbrev pub is_round : List ℕ → Bool
is_round line = is_round_said (script_line line)

-- the line is neither empty nor a comment
abbrev pub says_something : List ℕ → Bool
says_something line = not (length line == 0 || starts_with nat_eq line (codes "#"))
