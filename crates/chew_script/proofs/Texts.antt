-- A script by the lines of its text, or as a whole.
use Rattle.std.proofs.Common.{◌≡◌, ℕ, ◌<◌, ◌≤◌, List, [], length, Result, Err}
use Rattle.chew_spec_text.specs.Lines.{each_line, lines_of}
use Rattle.chew_spec_text.specs.Script as spec
use Rattle.chew_spec_text.specs.Script.{Script, ScriptCause, script_line, script_limit, script_of, with_script_line}
use Rattle.chew_spec_text.proofs.Limited.{accepted, refused}

-- what one line more makes of a script
abbrev pub taken : Script → List ℕ → Result Script ScriptCause
taken script line = with_script_line script (script_line line)

-- the script before the first line
abbrev pub no_lines : Script
no_lines = record { contexts = []; rounds = 0 }

-- a text beyond the limit
pub text_long : (text : List ℕ) → 1_048_576 < length text → script_of text ≡ Err (record { line = 0; cause = spec.Size })
unfolding script_of
text_long text h = refused script_limit spec.Size taken no_lines text h

-- a text within it
pub text_lines : (text : List ℕ) → length text ≤ 1_048_576 → script_of text ≡ each_line taken 1 no_lines (lines_of text)
unfolding script_of
text_lines text h = accepted script_limit spec.Size taken no_lines text h
