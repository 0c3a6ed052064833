-- What a key asks of the dictionary before it is done. No reply to a call of the key changes which calls there are.
use Rattle.std.specs.Prelude.{ℕ, List, [], ◌++◌, map, Option, None, option_to_list}
use Rattle.std.specs.Option.{option_map_or}
use Rattle.chew_spec_dictionary.specs.Call.{Call, Look}
use Rattle.chew_spec_preedit.specs.Buffer.{Buffer}
use Rattle.chew_spec_preedit.specs.PlacedRun.{PlacedRun, run_at, runs_of}
use Rattle.chew_spec_text.specs.Line.{Note, Quiet}
use Rattle.chew_spec_editor.specs.Editor.{Editor}

-- the editor but for the pieces of the runs that are asked; what it changes in the dictionary, in order: learns, or one
-- forget or hide; what it commits; its note, if all goes well; and the place at which it opens the window
pub record Pending : Type 0 where
  pub editor : Editor
  pub changes : List Call
  pub commit : List ℕ
  pub note : Note
  pub opens : Option ℕ

-- the runs that are looked up, from left to right: where a window opens the run at its place, else all
abbrev pub runs_asked : Pending → List PlacedRun
runs_asked pending =
    option_map_or (λ place. option_to_list (run_at pending.editor.buffer.cells place)) pending.opens (runs_of pending.editor.buffer.cells)

-- the calls, in their order: the changes, then a look-up of each run
abbrev pub calls_of : Pending → List Call
calls_of pending = pending.changes ++ map (λ run. Look run.codes) (runs_asked pending)

-- a key that leaves this buffer: all its runs are looked up, and no window is open
abbrev pub with_buffer : Editor → Buffer → Pending
with_buffer editor buffer = record {
  editor = record editor { buffer = buffer; pieces = []; window = None };
  changes = [];
  commit = [];
  note = Quiet;
  opens = None;
}
