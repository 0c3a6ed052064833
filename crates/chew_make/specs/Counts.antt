-- An editor that types alone with its dictionary, and what came of it in numbers.
use Rattle.std.specs.Prelude.{ℕ, ◌+◌, List, [], cond, count_by, length}
use Rattle.chew_spec_syllable.specs.Row.{Row}
use Rattle.chew_spec_dictionary.specs.History.{Point, start_of}
use Rattle.chew_spec_editor.specs.Alone.{Alone, point_after, replies_from}
use Rattle.chew_spec_editor.specs.Editor.{Editor}
use Rattle.chew_spec_editor.specs.Finish.{finish}
use Rattle.chew_spec_editor.specs.Pending.{calls_of}
use Rattle.chew_spec_editor.specs.Press.{Pressed, Done, Ask}
use Rattle.chew_spec_editor.specs.Settings.{Settings}
use Rattle.chew_spec_session.specs.Context.{Basis}
use Rattle.chew_spec_program.specs.Make.{has_commit}
use Rattle.chew_make.specs.declared.typist.Typist.{Typist}

-- the editor and the dictionary's point, how many calls were made, and how many lines committed something
pub record Counted : Type 0 where
  pub editor : Editor
  pub point : Point
  pub calls : ℕ
  pub commits : ℕ

abbrev pub tally : Editor → Point → (calls commits : ℕ) → Counted
tally editor point calls commits = record { editor = editor; point = point; calls = calls; commits = commits }

-- what the code's typist stands for
abbrev pub tally_of : Typist → Counted
tally_of typist = tally typist.editor typist.plain typist.calls typist.commits

-- what came of an editor alone
abbrev pub counted : Alone → Counted
counted alone = tally alone.editor alone.point (length alone.calls) (count_by has_commit alone.lines)

-- a key more, whose calls are answered as they are made
abbrev pub key_counted : List Row → Counted → Pressed → Counted
key_counted system had (Done editor line) = tally editor had.point had.calls (had.commits + cond (has_commit line) 1 0)
key_counted system had (Ask pending) =
    let finished = finish system pending (replies_from had.point (calls_of pending)) in
    tally finished.editor (point_after had.point (calls_of pending)) (had.calls + length (calls_of pending))
    (had.commits + cond (has_commit finished.line) 1 0)

-- a user's dictionary without a pair, which takes as many as the settings say
abbrev pub nothing_learnt : Settings → Point
nothing_learnt settings = start_of (record { pairs = []; life = 0; cap = settings.cap })

-- what is typed on with these settings, over rows in image order and a dictionary without a pair
abbrev pub basis_in : Settings → List Row → Basis
basis_in settings system = record { system = system; settings = settings; start = nothing_learnt settings }
