-- The editor that the code's state stands for.
use Rattle.std.specs.Prelude.{List, Option}
use Rattle.chew_spec_phrasing.specs.Usable.{Piece}
use Rattle.chew_spec_preedit.specs.Window.{Window}
use Rattle.chew_spec_editor.specs.Editor.{Editor}
use Rattle.chew_layouts.specs.Layouts.{layout_of}
use Rattle.chew_editor.specs.declared.state.State.{State}
use Rattle.chew_editor.specs.declared.state.Typing.{Typing}

-- what is typed, with the pieces and the window that are shown
abbrev pub editor_of : Typing → List Piece → Option Window → Editor
editor_of typing pieces window = record {
  settings = typing.settings;
  layout = layout_of typing.layout;
  buffer = typing.preedit;
  pieces = pieces;
  window = window;
}

-- the editor of a state
abbrev pub state_of : State → Editor
state_of state = editor_of state.typing state.pieces.items state.window
