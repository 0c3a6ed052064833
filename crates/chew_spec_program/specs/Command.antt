-- The words of the command line, and the command that they are.
use Rattle.std.specs.Prelude.{ℕ, suc, ◌-◌, ◌^◌, Bool, true, false, not, ◌&&◌, ◌||◌, List, [], ◌∷◌, length, count_by, ◌==◌, nat_le, bytes_eq, codes, Option, Some, None, option_map, if◌then◌else◌}
use Rattle.std.specs.List.{list_all, list_any}
use Rattle.chew_spec_text.specs.Digits.{number_up_to}

-- what the words ask for; a file or folder is told by the place of its name among the words, counted from 0
pub data Command : Type 0 where
  -- run a script over a system and a folder, with the trace of its calls or without, by these settings or the standard ones
  Run : (trace : Bool) (system script folder : ℕ) (settings : Option ℕ) → Command
  -- write the image of a dictionary's text
  Build : (from to : ℕ) → Command
  -- tell an image's numbers of rows and nodes
  Check : (from : ℕ) → Command
  -- write the text of an image's rows
  Dump : (from : ℕ) → Command
  -- run the generated script of a number
  Make : (number : ℕ) → Command

-- a name of a file or folder: not empty, and it doesn't begin with '-'
abbrev pub is_name : List ℕ → Bool
is_name [] = false
is_name (first ∷ rest) = not (first == 45)

-- the word that asks for the trace
abbrev pub is_trace : List ℕ → Bool
is_trace word = bytes_eq word (codes "--trace")

-- the places of all words but that one, counted from here
abbrev pub places_from : ℕ → List (List ℕ) → List ℕ
places_from place [] = []
places_from place (word ∷ words) = if is_trace word then places_from (suc place) words else place ∷ places_from (suc place) words

-- the trace is asked for once at most, and all other words are names
abbrev pub are_names_and_trace : List (List ℕ) → Bool
are_names_and_trace words = nat_le (count_by is_trace words) 1 && list_all (λ word. is_trace word || is_name word) words

-- the run whose names stand at these places: SYSTEM SCRIPT FOLDER, and SETTINGS where there is a fourth
abbrev pub run_at : Bool → List ℕ → Option Command
run_at trace (system ∷ (script ∷ (folder ∷ []))) = Some (Run trace system script folder None)
run_at trace (system ∷ (script ∷ (folder ∷ (settings ∷ [])))) = Some (Run trace system script folder (Some settings))
run_at trace _ = None

-- the words behind `run`
abbrev pub run_of : List (List ℕ) → Option Command
run_of words = if are_names_and_trace words then run_at (list_any is_trace words) (places_from 1 words) else None

-- the words behind `build`: FROM TO
abbrev pub build_of : List (List ℕ) → Option Command
build_of (from ∷ (to ∷ [])) = if is_name from && is_name to then Some (Build 1 2) else None
build_of _ = None

-- the word behind the name of a command that reads one file: FROM
abbrev pub with_file : Command → List (List ℕ) → Option Command
with_file command (from ∷ []) = if is_name from then Some command else None
with_file command _ = None

-- the number that 1 to 20 digits write, at most 2^64-1
abbrev pub number_in : List ℕ → Option ℕ
number_in digits = if nat_le (length digits) 20 then number_up_to (2 ^ 64 - 1) digits else None

-- the word behind `make`: NUMBER
abbrev pub make_of : List (List ℕ) → Option Command
make_of (number ∷ []) = option_map Make (number_in number)
make_of _ = None

-- the command whose name this word is, by the words behind it
abbrev pub named : List ℕ → List (List ℕ) → Option Command
named name words =
    if bytes_eq name (codes "run") then run_of words
    else if bytes_eq name (codes "build") then build_of words
    else if bytes_eq name (codes "check") then with_file (Check 1) words
    else if bytes_eq name (codes "dump") then with_file (Dump 1) words
    else if bytes_eq name (codes "make") then make_of words
    else None

-- the command that the words are, where they are one
unfoldable pub command_of : List (List ℕ) → Option Command
command_of [] = None
command_of (name ∷ words) = named name words

-- the command is a run
abbrev pub is_run : Option Command → Bool
is_run (Some (Run trace system script folder settings)) = true
is_run _ = false

-- a run that asks for the trace of its calls
abbrev pub has_trace : Option Command → Bool
has_trace (Some (Run trace system script folder settings)) = trace
has_trace _ = false

-- a run that names settings
abbrev pub has_settings : Option Command → Bool
has_settings (Some (Run trace system script folder (Some settings))) = true
has_settings _ = false

-- the words are those of a run; of one that asks for the trace; of one that names settings
abbrev pub is_run_command : List (List ℕ) → Bool
is_run_command words = is_run (command_of words)

abbrev pub asks_trace : List (List ℕ) → Bool
asks_trace words = has_trace (command_of words)

abbrev pub names_settings : List (List ℕ) → Bool
names_settings words = has_settings (command_of words)
