-- The text of a script: the keys of each context, the rounds, and the first fault.
use Rattle.std.specs.Prelude.{ℕ, zero, suc, ◌+◌, ◌-◌, Bool, not, ◌&&◌, ◌||◌, List, [], ◌∷◌, ◌++◌, length, find, codes, decimal, bytes_eq, nat_eq, ◌==◌, nat_lt, nat_le, sum_by, Option, Some, None, Result, Ok, Err, if◌then◌else◌}
use Rattle.std.specs.List.{after_first, before_first, list_all, list_any, range_with_len, starts_with}
use Rattle.chew_spec_text.specs.Digits.{is_number}
use Rattle.chew_spec_text.specs.KeyStroke.{KeyStroke, is_printable, keys_in}
use Rattle.chew_spec_text.specs.Lines.{Fault, each_line, lines_of}

-- the most bytes of a script, 1 MiB
abbrev pub script_limit : ℕ
script_limit = 1_048_576

-- the most keys of all contexts of a script
abbrev pub keys_limit : ℕ
keys_limit = 65_536

-- the most rounds that a script asks
abbrev pub rounds_limit : ℕ
rounds_limit = 64

-- the most contexts of a script
abbrev pub contexts_limit : ℕ
contexts_limit = 16

-- why a line can't be taken, in the order in which it is told
pub data ScriptCause : Type 0 where
  -- the text is longer than 1 MiB
  Size : ScriptCause
  -- a byte that isn't printable ASCII
  Byte : ScriptCause
  -- none of the forms of a line
  Form : ScriptCause
  -- the number of the context isn't 1 to 16, or begins with 0
  Context : ScriptCause
  -- a '<' that begins no name
  Key : ScriptCause
  -- the 65,537th key
  Keys : ScriptCause
  -- the 65th round
  Rounds : ScriptCause

-- the keys of each context, from number 1 to the greatest that the script names, and how many rounds it asks
pub record Script : Type 0 where
  pub contexts : List (List KeyStroke)
  pub rounds : ℕ

-- what a line says
pub data ScriptLine : Type 0 where
  -- nothing: it is empty or a comment
  Nothing : ScriptLine
  Round : ScriptLine
  -- these keys for the context of this number
  KeyLine : (number : ℕ) (keys : List KeyStroke) → ScriptLine

-- the number of a context in decimal
abbrev pub context_in : List ℕ → Option ℕ
context_in digits = find (λ number. bytes_eq (decimal number) digits) (range_with_len 1 contexts_limit)

-- a byte that parts a context's number from its keys: ':'
abbrev pub is_colon : ℕ → Bool
is_colon byte = byte == 58

-- a line of keys: a number, ':' and keys
abbrev pub is_key_line : List ℕ → Bool
is_key_line line = list_any is_colon line && is_number (before_first is_colon line)

-- what a line of this number and these keys says, or which of them it lacks
abbrev pub key_line : Option ℕ → Option (List KeyStroke) → Result ScriptLine ScriptCause
key_line None keys = Err Context
key_line (Some number) None = Err Key
key_line (Some number) (Some keys) = Ok (KeyLine number keys)

-- what a line says that is neither empty, nor a comment, nor a round
abbrev pub key_line_of : List ℕ → Result ScriptLine ScriptCause
key_line_of line =
    if is_key_line line then key_line (context_in (before_first is_colon line)) (keys_in (after_first is_colon line)) else Err Form

-- what a line says, or why it says nothing
abbrev pub script_line : List ℕ → Result ScriptLine ScriptCause
script_line line =
    if length line == 0 || starts_with nat_eq line (codes "#") then Ok Nothing
    else if not (list_all is_printable line) then Err Byte
    else if bytes_eq line (codes "round") then Ok Round
    else key_line_of line

-- the keys behind those of the context at this place, counted from 0; each context before it is there then
abbrev pub add_keys : ℕ → List KeyStroke → List (List KeyStroke) → List (List KeyStroke)
add_keys zero keys [] = keys ∷ []
add_keys zero keys (had ∷ rest) = (had ++ keys) ∷ rest
add_keys (suc n) keys [] = [] ∷ add_keys n keys []
add_keys (suc n) keys (had ∷ rest) = had ∷ add_keys n keys rest

-- how many keys all contexts have
abbrev pub keys_count : List (List KeyStroke) → ℕ
keys_count contexts = sum_by length contexts

-- a script with what one line more says
abbrev pub with_script_line : Script → Result ScriptLine ScriptCause → Result Script ScriptCause
with_script_line script (Err cause) = Err cause
with_script_line script (Ok Nothing) = Ok script
with_script_line script (Ok Round) =
    if nat_lt script.rounds rounds_limit then Ok (record script { rounds = suc script.rounds }) else Err Rounds
with_script_line script (Ok (KeyLine number keys)) =
    if nat_le (keys_count script.contexts + length keys) keys_limit
    then Ok (record script { contexts = add_keys (number - 1) keys script.contexts })
    else Err Keys

-- what a text says, or its first fault
unfoldable pub script_of : List ℕ → Result Script (Fault ScriptCause)
script_of text =
    if nat_le (length text) script_limit
    then each_line (λ script line. with_script_line script (script_line line)) 1 (record { contexts = []; rounds = 0 }) (lines_of text)
    else Err (record { line = 0; cause = Size })
