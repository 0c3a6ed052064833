-- The line that is printed for each handled key.
use Rattle.std.specs.Prelude.{ℕ, List, [], ◌∷◌, ◌++◌, codes, decimal}

-- what is told of a key besides
pub data Note : Type 0 where
  Quiet : Note
  -- it could not do what it says
  Bell : Note
  -- what it would have learnt or hidden was not, since the user's dictionary is full
  Full : Note
  -- it added a phrase
  Added : Note
  -- it took a phrase away
  Forgot : Note
  -- it hid a phrase
  Hidden : Note
  -- there was no phrase to take away, or it was hidden
  Missing : Note

-- what is shown once a key was handled: the pre-edit text, the column of the cursor, what the layout holds,
-- the text that this key committed, and the window of candidates
pub record Line : Type 0 where
  pub preedit : List ℕ
  pub column : ℕ
  pub held : List ℕ
  pub commit : List ℕ
  pub window : List ℕ
  pub note : Note

-- the text of each note
abbrev pub note_text : Note → List ℕ
note_text Quiet = []
note_text Bell = codes "bell"
note_text Full = codes "full"
note_text Added = codes "added"
note_text Forgot = codes "forgot"
note_text Hidden = codes "hidden"
note_text Missing = codes "none"

-- the text, and a TAB behind it
abbrev pub with_tab : List ℕ → List ℕ
with_tab text = text ++ 9 ∷ []

-- the text, and a line feed behind it
abbrev pub with_line_feed : List ℕ → List ℕ
with_line_feed text = text ++ 10 ∷ []

-- the fields of a line, parted by TAB, and a line feed at its end
unfoldable pub line_text : Line → List ℕ
line_text line = with_tab line.preedit ++ (with_tab (decimal line.column) ++ (with_tab line.held
    ++ (with_tab line.commit ++ (with_tab line.window ++ with_line_feed (note_text line.note)))))
