-- The talk of an editor with a dictionary, over a list of keys.
use Rattle.std.specs.Prelude.{ℕ, List, [], ◌∷◌, ◌++◌, length, take, drop, nat_le, Option, Some, None, if◌then◌else◌}
use Rattle.std.specs.Option.{option_map_or}
use Rattle.chew_spec_syllable.specs.Row.{Row}
use Rattle.chew_spec_dictionary.specs.Call.{Call, Reply}
use Rattle.chew_spec_text.specs.KeyStroke.{KeyStroke}
use Rattle.chew_spec_text.specs.Line.{Line}
use Rattle.chew_spec_editor.specs.Editor.{Editor, empty_editor}
use Rattle.chew_spec_editor.specs.Finish.{finish}
use Rattle.chew_spec_editor.specs.Keys.{press}
use Rattle.chew_spec_editor.specs.Pending.{Pending, calls_of}
use Rattle.chew_spec_editor.specs.Press.{Pressed, Done, Ask}
use Rattle.chew_spec_editor.specs.Settings.{Settings}

-- a talk: the calls that the handled keys made, a line for each of these keys, the editor then, and the replies that
-- they did not take
pub record Talk : Type 0 where
  pub calls : List Call
  pub lines : List Line
  pub editor : Editor
  pub replies : List Reply

-- how many keys were handled
abbrev pub handled : Talk → ℕ
handled talk = length talk.lines

-- a talk in which no key was handled
abbrev pub silence : Editor → List Reply → Talk
silence editor replies = record { calls = []; lines = []; editor = editor; replies = replies }

-- a talk, with a key before it that made these calls and has this line
abbrev pub after_key : List Call → Line → Talk → Talk
after_key calls line talk = record talk { calls = calls ++ talk.calls; lines = line ∷ talk.lines }

-- a talk, and one that follows it
abbrev pub followed : Talk → Talk → Talk
followed talk next = record next { calls = talk.calls ++ next.calls; lines = talk.lines ++ next.lines }

-- a key that was handled: its calls, its line, and the editor then
pub record Turn : Type 0 where
  pub calls : List Call
  pub line : Line
  pub editor : Editor

-- the turn of a key that asked calls, where there is a reply to each
abbrev pub answered_turn : List Row → Pending → List Reply → Option Turn
answered_turn system pending replies =
    let finished = finish system pending (take (length (calls_of pending)) replies) in
    if nat_le (length (calls_of pending)) (length replies)
    then Some (record { calls = calls_of pending; line = finished.line; editor = finished.editor })
    else None

abbrev pub turn_after : List Row → Pressed → List Reply → Option Turn
turn_after system (Done editor line) replies = Some (record { calls = []; line = line; editor = editor })
turn_after system (Ask pending) replies = answered_turn system pending replies

-- the turn of a key
abbrev pub turn_of : List Row → Editor → KeyStroke → List Reply → Option Turn
turn_of system editor key replies = turn_after system (press system editor key) replies

-- the talk from an editor on: each key takes as many replies as it has calls, and it stops where too few are left
unfoldable pub talk_from : List Row → Editor → List KeyStroke → List Reply → Talk
talk_from system editor [] replies = silence editor replies
talk_from system editor (key ∷ keys) replies =
    option_map_or
    (λ turn. after_key turn.calls turn.line (talk_from system turn.editor keys (drop (length turn.calls) replies)))
    (turn_of system editor key replies) (silence editor replies)

-- the talk from an empty editor
abbrev pub talk : List Row → Settings → List KeyStroke → List Reply → Talk
talk system settings keys replies = talk_from system (empty_editor settings) keys replies
