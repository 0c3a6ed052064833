-- The state of an editor, and the line that shows it.
use Rattle.std.specs.Prelude.{ℕ, List, [], ◌∷◌, ◌++◌, flat_map, take, zip, codes, decimal, false, Option, None}
use Rattle.std.specs.Option.{option_map_or}
use Rattle.unicode_width.specs.Width.{str_width}
use Rattle.chew_spec_layout.specs.Layout.{Layout, new_layout, shown}
use Rattle.chew_spec_dictionary.specs.Call.{Hit}
use Rattle.chew_spec_phrasing.specs.Usable.{Piece}
use Rattle.chew_spec_preedit.specs.Buffer.{Buffer, empty_buffer}
use Rattle.chew_spec_preedit.specs.ShownText as preedit
use Rattle.chew_spec_preedit.specs.Window.{Window, on_page, pages_of}
use Rattle.chew_spec_text.specs.Line.{Line, Note}
use Rattle.chew_spec_editor.specs.Settings.{Settings}

-- what its user has set; the layout and what it holds; the pre-edit buffer; the pieces that are shown for all its runs, by
-- their places in the buffer; and the window of candidates, where one is open
pub record Editor : Type 0 where
  pub settings : Settings
  pub layout : Layout
  pub buffer : Buffer
  pub pieces : List Piece
  pub window : Option Window

-- nothing held and no cell
abbrev pub empty_editor : Settings → Editor
empty_editor settings = record {
  settings = settings;
  layout = new_layout settings.layout;
  buffer = empty_buffer settings.buffer;
  pieces = [];
  window = None;
}

-- a character for each cell
abbrev pub characters_of : Editor → List ℕ
characters_of editor = preedit.characters_of editor.pieces editor.buffer.cells

-- the pre-edit text
abbrev pub shown_text : Editor → List ℕ
shown_text editor = preedit.shown_text editor.pieces editor.buffer.cells

-- the columns that the text before the cursor takes
abbrev pub column_of : Editor → ℕ
column_of editor = str_width false (take editor.buffer.cursor (characters_of editor))

-- a candidate behind a space and the key that picks it
abbrev pub candidate_text : ℕ × Hit → List ℕ
candidate_text (key, hit) = 32 ∷ (key ∷ hit.phrase)

-- the page, the number of pages, and the candidates of the page
unfoldable pub window_text : List ℕ → Window → List ℕ
window_text selection window =
    decimal window.page ++ (codes "/" ++ (decimal (pages_of window) ++ flat_map candidate_text (zip selection (on_page window))))

-- the line that shows an editor, with what the key committed
unfoldable pub line_of : Editor → List ℕ → Note → Line
line_of editor commit note = record {
  preedit = shown_text editor;
  column = column_of editor;
  held = shown editor.layout;
  commit = commit;
  window = option_map_or (window_text editor.settings.selection) editor.window [];
  note = note;
}
