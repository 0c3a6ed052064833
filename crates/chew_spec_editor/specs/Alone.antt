-- An editor alone with its dictionary, for known values: each call is answered as it is made.
use Rattle.std.specs.Prelude.{List, [], ◌∷◌, ◌++◌}
use Rattle.chew_spec_syllable.specs.Row.{Row}
use Rattle.chew_spec_dictionary.specs.Call.{Call, Reply}
use Rattle.chew_spec_dictionary.specs.History.{Point, answer}
use Rattle.chew_spec_text.specs.KeyStroke.{KeyStroke}
use Rattle.chew_spec_text.specs.Line.{Line}
use Rattle.chew_spec_editor.specs.Editor.{Editor}
use Rattle.chew_spec_editor.specs.Finish.{finish}
use Rattle.chew_spec_editor.specs.Keys.{press}
use Rattle.chew_spec_editor.specs.Pending.{calls_of}
use Rattle.chew_spec_editor.specs.Press.{Pressed, Done, Ask}

-- the editor, the dictionary's point, the calls that were made with their replies, and the lines
pub record Alone : Type 0 where
  pub editor : Editor
  pub point : Point
  pub calls : List Call
  pub replies : List Reply
  pub lines : List Line

-- a list of calls, made one after another
abbrev pub replies_from : Point → List Call → List Reply
replies_from point [] = []
replies_from point (call ∷ calls) = (answer point call).reply ∷ replies_from (answer point call).point calls

abbrev pub point_after : Point → List Call → Point
point_after point [] = point
point_after point (call ∷ calls) = point_after (answer point call).point calls

-- a key more
abbrev pub after_pressed : List Row → Alone → Pressed → Alone
after_pressed system had (Done editor line) = record had { editor = editor; lines = had.lines ++ line ∷ [] }
after_pressed system had (Ask pending) =
    let replies = replies_from had.point (calls_of pending) in
    let finished = finish system pending replies in
    record {
      editor = finished.editor;
      point = point_after had.point (calls_of pending);
      calls = had.calls ++ calls_of pending;
      replies = had.replies ++ replies;
      lines = had.lines ++ finished.line ∷ [];
    }

-- the keys, one after another
unfoldable pub alone_from : List Row → Alone → List KeyStroke → Alone
alone_from system had [] = had
alone_from system had (key ∷ keys) = alone_from system (after_pressed system had (press system had.editor key)) keys

-- the keys from an editor and a dictionary on
abbrev pub alone : List Row → Editor → Point → List KeyStroke → Alone
alone system editor point keys = alone_from system (record { editor = editor; point = point; calls = []; replies = []; lines = [] }) keys
