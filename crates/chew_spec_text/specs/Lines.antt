-- The lines of a text that comes in, and the first of them that can't be taken.
use Rattle.std.specs.Prelude.{ℕ, suc, ◌-◌, Bool, not, List, [], ◌∷◌, ◌++◌, length, take, map, nat_eq, ◌==◌, if◌then◌else◌, Result, Ok, Err}
use Rattle.std.specs.List.{ends_with, list_any, slice_split}

-- the line without the carriage return at its end, of which one is dropped
abbrev pub without_return : List ℕ → List ℕ
without_return line = if ends_with nat_eq line (13 ∷ []) then take (length line - 1) line else line

-- the line has no line feed
abbrev pub is_line : List ℕ → Bool
is_line line = not (list_any (λ byte. byte == 10) line)

-- the line and a carriage return behind it
abbrev pub with_return : List ℕ → List ℕ
with_return line = line ++ 13 ∷ []

-- the lines of a text, which line feeds part; what follows the last line feed is a line too
abbrev pub lines_of : List ℕ → List (List ℕ)
lines_of text = map without_return (slice_split (λ byte. byte == 10) text)

-- why a text is refused, and in which line, counted from 1; line 0 is told of the text as a whole
pub record Fault (C : Type 0) : Type 0 where
  pub line : ℕ
  pub cause : C

-- the value, or the cause alone
abbrev pub but_for_line : {V C : Type 0} → Result V (Fault C) → Result V C
but_for_line (Ok value) = Ok value
but_for_line (Err fault) = Err fault.cause

-- the value of what a line made, as it goes on; else the fault in this line
abbrev pub go_on : {V C W : Type 0} → ℕ → (V → Result W (Fault C)) → Result V C → Result W (Fault C)
go_on line next (Ok value) = next value
go_on line next (Err cause) = Err (record { line = line; cause = cause })

-- what the lines make of a value, one after another, numbered from here
abbrev pub each_line : {V C : Type 0} → (V → List ℕ → Result V C) → ℕ → V → List (List ℕ) → Result V (Fault C)
each_line taken number value [] = Ok value
each_line taken number value (line ∷ lines) = go_on number (λ next. each_line taken (suc number) next lines) (taken value line)
