-- What every editor keeps.
use Rattle.std.specs.Prelude.{◌≡◌, ℕ, Bool, true, not, ◌&&◌, List, [], ◌∷◌, Contains, flat_map, length, bytes_eq, ◌==◌, nat_le}
use Rattle.std.specs.Option.{option_map_or}
use Rattle.std.specs.List.{list_all, list_any, range_with_len}
use Rattle.chew_spec_syllable.specs.Phrase.{is_phrase}
use Rattle.chew_spec_syllable.specs.Row.{Row, greatest_freq}
use Rattle.chew_spec_layout.specs.Layout.{is_layout}
use Rattle.chew_spec_dictionary.specs.System.{has_single}
use Rattle.chew_spec_phrasing.specs.Usable.{Piece, phrase_len}
use Rattle.chew_spec_preedit.specs.Buffer.{Buffer, cells_limit, is_buffer, is_choice_of}
use Rattle.chew_spec_preedit.specs.Cell.{Cell, Sound, has_sound}
use Rattle.chew_spec_preedit.specs.PlacedRun.{PlacedRun, runs_of}
use Rattle.chew_spec_preedit.specs.Window.{Window, choice_of, is_window}
use Rattle.chew_spec_editor.specs.Editor.{Editor}
use Rattle.chew_spec_editor.specs.Pending.{Pending}
use Rattle.chew_spec_editor.specs.Settings.{Settings}

-- a byte that may be a selection key: printable, and no space
abbrev pub is_selection_key : ℕ → Bool
is_selection_key byte = nat_le 0x21 byte && nat_le byte 0x7E

-- no two of the keys are the same
abbrev pub is_distinct : List ℕ → Bool
is_distinct [] = true
is_distinct (key ∷ keys) = not (list_any (λ other. other == key) keys) && is_distinct keys

-- the settings are in their ranges
abbrev pub is_settings : Settings → Bool
is_settings settings =
    nat_le 1 settings.buffer && (nat_le settings.buffer cells_limit && (nat_le 1 settings.page && (nat_le settings.page 10
    && (length settings.selection == 10 && (list_all is_selection_key settings.selection
    && (is_distinct settings.selection && (nat_le 1 settings.cap && nat_le settings.cap 200_000)))))))

-- the places of a piece's cells, and those of a run's
abbrev pub piece_places : Piece → List ℕ
piece_places piece = range_with_len piece.start (phrase_len piece.phrase)

abbrev pub run_places : PlacedRun → List ℕ
run_places run = range_with_len run.start (length run.codes)

-- the cells of the pieces, one after another, are the syllables of the buffer
abbrev pub covers : List Cell → List Piece → Bool
covers cells pieces = bytes_eq (flat_map piece_places pieces) (flat_map run_places (runs_of cells))

-- a piece is a phrase with a frequency in range
abbrev pub is_piece : Piece → Bool
is_piece piece = is_phrase piece.phrase && nat_le piece.freq greatest_freq

-- each candidate of the window may be chosen for its cells of the buffer
abbrev pub has_choices : Buffer → Window → Bool
has_choices buffer window =
    list_all (λ list. list_all (λ hit. is_choice_of buffer.cells buffer.breaks (choice_of window.place hit)) list.rows) window.lists

-- a window over the buffer
abbrev pub is_window_over : Buffer → Window → Bool
is_window_over buffer window = is_window window && has_choices buffer window

-- what an editor keeps but for where its pieces are
abbrev pub is_steady : Editor → Bool
is_steady editor =
    is_settings editor.settings && (is_layout editor.layout && (is_buffer editor.buffer && (editor.buffer.limit == editor.settings.buffer
    && (list_all is_piece editor.pieces && option_map_or (is_window_over editor.buffer) editor.window true))))

-- what every editor keeps
unfoldable pub is_editor : Editor → Bool
is_editor editor = is_steady editor && covers editor.buffer.cells editor.pieces

-- where all runs are asked, no piece is kept; where a window opens, there is a run at its place, and the other pieces are kept
abbrev pub asks_rightly : Pending → Bool
asks_rightly pending =
    option_map_or (λ place. has_sound pending.editor.buffer.cells place && covers pending.editor.buffer.cells pending.editor.pieces)
    pending.opens (length pending.editor.pieces == 0)

-- what every pending editor keeps
unfoldable pub is_pending : Pending → Bool
is_pending pending = is_steady pending.editor && asks_rightly pending

-- the system has a row by itself for each syllable of the cells
pub record HasSingles (system : List Row) (cells : List Cell) : Type 0 where
  pub each : (code : ℕ) → Contains cells (Sound code) → has_single system code ≡ true
