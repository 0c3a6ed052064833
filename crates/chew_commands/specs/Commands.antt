-- The command of the definitions that the code's stands for, and the words of a run read one by one.
use Rattle.std.specs.Prelude.{ℕ, suc, Bool, true, List, [], ◌∷◌, ◌++◌, length, nat_lt, Option, Some, None, Result, Ok, Err, option_and_then, if◌then◌else◌}
use Rattle.chew_spec_program.specs.Command as spec
use Rattle.chew_spec_program.specs.Command.{is_name, is_trace, run_at}
use Rattle.chew_commands.specs.declared.command.Command.{Command}
use Rattle.chew_commands.specs.declared.command.Command.TheVariants.{Run, Build, Check, Dump, Make}
use Rattle.chew_commands.specs.declared.command.Words.{Words}

abbrev pub kind_of : Command → spec.Command
kind_of (Run trace system script folder settings) = spec.Run trace system script folder settings
kind_of (Build from to) = spec.Build from to
kind_of (Check from) = spec.Check from
kind_of (Dump from) = spec.Dump from
kind_of (Make number) = spec.Make number

abbrev pub command_in : Result Command Words → Option spec.Command
command_in (Ok command) = Some (kind_of command)
command_in (Err words) = None

-- the places of names, and one more, of at most four
abbrev pub with_name : List ℕ → ℕ → Option (List ℕ)
with_name names place = if nat_lt (length names) 4 then Some (names ++ place ∷ []) else None

-- the words of a run from a place on, behind those that asked for the trace or not and whose names stand at these places
abbrev pub run_from : List (List ℕ) → (place : ℕ) → (trace : Bool) → (names : List ℕ) → Option spec.Command
run_from [] place trace names = run_at trace names
run_from (word ∷ words) place trace names =
    if is_trace word
    then (if trace then None else run_from words (suc place) true names)
    else (if is_name word then option_and_then (λ more. run_from words (suc place) trace more) (with_name names place) else None)
