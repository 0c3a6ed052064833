-- What a context that types makes of its keys: the calls that it makes and hears in the history, and the lines that it prints.
use Rattle.std.specs.Prelude.{◌≡◌, ℕ, List, [], ◌∷◌, ◌++◌, flat_map, length, Some}
use Rattle.chew_spec_syllable.specs.Row.{Row}
use Rattle.chew_spec_dictionary.specs.Call.{Call, Reply}
use Rattle.chew_spec_dictionary.specs.History as history
use Rattle.chew_spec_dictionary.specs.History.{Entry, Point}
use Rattle.chew_spec_dictionary.specs.Growth.{IsFront, Made}
use Rattle.chew_spec_text.specs.KeyStroke.{KeyStroke}
use Rattle.chew_spec_text.specs.Line.{Line, line_text}
use Rattle.chew_spec_editor.specs.Editor.{Editor}
use Rattle.chew_spec_editor.specs.Finish.{finish}
use Rattle.chew_spec_editor.specs.Pending.{Pending, calls_of}
use Rattle.chew_spec_editor.specs.Talk.{turn_of}
use Rattle.chew_spec_session.specs.Context.{Basis, Handles, talk_in}
use Rattle.chew_spec_session.specs.Session.{ContextEnd}

-- the call was made, and its reply stands behind those that were heard before
pub record Hears (start : Point) (who : ℕ) (call : Call) (before now : List Entry) (had replies : List Reply) : Type 0 where
  pub reply : Reply
  pub made : Made start before now who (call ∷ []) (reply ∷ [])
  pub behind : replies ≡ had ++ reply ∷ []

-- some of these calls were made, from the first on
pub record Asks (start : Point) (who : ℕ) (calls : List Call) (before now : List Entry) : Type 0 where
  pub asked : List Call
  pub heard : List Reply
  pub front : IsFront asked calls
  pub made : Made start before now who asked heard

-- all calls of a key were made, it left this editor, and its line was printed
pub record Answered (system : List Row) (start : Point) (who : ℕ) (pending : Pending) (editor : Editor) (before now : List Entry)
    (text longer : List ℕ) : Type 0 where
  pub heard : List Reply
  pub made : Made start before now who (calls_of pending) heard
  pub left : editor ≡ (finish system pending heard).editor
  pub printed : longer ≡ text ++ line_text (finish system pending heard).line

-- the key was handled: it made its calls, its line was printed, and it left this editor
pub record Turns (system : List Row) (start : Point) (who : ℕ) (key : KeyStroke) (had editor : Editor) (before now : List Entry)
    (text longer : List ℕ) : Type 0 where
  pub calls : List Call
  pub heard : List Reply
  pub line : Line
  pub made : Made start before now who calls heard
  pub turned : turn_of system had key heard ≡ Some (record { calls = calls; line = line; editor = editor })
  pub printed : longer ≡ text ++ line_text line

-- these keys of a context were all handled: in the history it made the calls of their talk and no others, their lines were
-- printed, and they left this editor
pub record Talks (basis : Basis) (who : ℕ) (keys : List KeyStroke) (editor : Editor) (seen : List Entry) (text : List ℕ) : Type 0 where
  pub lines : List Line
  pub talked : talk_in basis seen who keys ≡ record { calls = history.calls_of seen who; lines = lines; editor = editor; replies = [] }
  pub each : length lines ≡ length keys
  pub printed : text ≡ flat_map line_text lines

-- a context handled so many of its keys by the history, and these are their lines as they are printed
pub record Typed (basis : Basis) (who : ℕ) (keys : List KeyStroke) (seen : List Entry) (count : ℕ) (text : List ℕ) : Type 0 where
  pub lines : List Line
  pub handles : Handles basis seen who keys count lines
  pub printed : text ≡ flat_map line_text lines

-- a context of this number ended so, after this history
pub record Ran (basis : Basis) (who : ℕ) (keys : List KeyStroke) (seen : List Entry) (end : ContextEnd) : Type 0 where
  pub lines : List Line
  pub handles : Handles basis seen who keys end.handled lines
  pub printed : end.bytes ≡ flat_map line_text lines
  pub number : end.who ≡ who
