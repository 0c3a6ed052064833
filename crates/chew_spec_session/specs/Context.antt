-- What a context of a run does: it handles some of its keys, and what it asks and hears stands in one history.
use Rattle.std.specs.Prelude.{◌≡◌, ℕ, suc, ◌≤◌, List, [], ◌∷◌, ◌++◌, length, take, drop}
use Rattle.chew_spec_syllable.specs.Row.{Row}
use Rattle.chew_spec_dictionary.specs.Call.{Call}
use Rattle.chew_spec_dictionary.specs.History.{Entry, Point, calls_of, replies}
use Rattle.chew_spec_dictionary.specs.Growth.{IsFront}
use Rattle.chew_spec_text.specs.KeyStroke.{KeyStroke}
use Rattle.chew_spec_text.specs.Line.{Line}
use Rattle.chew_spec_editor.specs.Editor.{Editor}
use Rattle.chew_spec_editor.specs.Keys.{calls_asked, press}
use Rattle.chew_spec_editor.specs.Settings.{Settings}
use Rattle.chew_spec_editor.specs.Talk.{Talk, talk}

-- what a run stands on: the system, the settings, and the user's dictionary as the history begins
pub record Basis : Type 0 where
  pub system : List Row
  pub settings : Settings
  pub start : Point

-- the talk of a number over some keys, with the replies that the history has for it
abbrev pub talk_in : Basis → List Entry → ℕ → List KeyStroke → Talk
talk_in basis journal who keys = talk basis.system basis.settings keys (replies basis.start journal who)

-- the calls that the first of these keys asks
abbrev pub next_calls : Basis → Editor → List KeyStroke → List Call
next_calls basis editor [] = []
next_calls basis editor (key ∷ keys) = calls_asked (press basis.system editor key)

-- the calls of a talk, and those that the first of these keys asks then
abbrev pub calls_with_next : Basis → Talk → List KeyStroke → List Call
calls_with_next basis talk keys = talk.calls ++ next_calls basis talk.editor keys

-- of its keys the context of this number handled so many, which have these lines, those of their talk; of the calls that
-- stand in the history for its number all those of that talk come first, and then at most those that the next key asks
pub record Handles (basis : Basis) (journal : List Entry) (who : ℕ) (keys : List KeyStroke) (count : ℕ) (lines : List Line) : Type 0 where
  pub each : length lines ≡ count
  pub talked : lines ≡ (talk_in basis journal who (take count keys)).lines
  pub made : IsFront (talk_in basis journal who (take count keys)).calls (calls_of journal who)
  pub next : IsFront (calls_of journal who) (calls_with_next basis (talk_in basis journal who (take count keys)) (drop count keys))

-- the same of each context, numbered from this one
abbrev pub HandleAll : Basis → List Entry → ℕ → List (List KeyStroke) → List ℕ → List (List Line) → Type 0
HandleAll basis journal who [] [] [] = Unit {0}
HandleAll basis journal who (keys ∷ others) (count ∷ counts) (lines ∷ texts) =
    Handles basis journal who keys count lines × HandleAll basis journal (suc who) others counts texts
HandleAll basis journal who _ _ _ = ⊥

-- the entry was made by one of so many contexts
pub record IsOfContext (contexts : ℕ) (entry : Entry) : Type 0 where
  pub from_one : 1 ≤ entry.who
  pub within : entry.who ≤ contexts
