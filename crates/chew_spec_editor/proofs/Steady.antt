-- What every editor keeps, part by part.
use Rattle.std.specs.Prelude.{◌≡◌, ◌≤◌, true, ◌==◌, nat_le}
use Rattle.std.specs.Option.{option_map_or}
use Rattle.std.specs.List.{list_all}
use Rattle.std.proofs.Common.{eqb-true}
use Rattle.std.proofs.lemmas.Bool.{and_from, and_parts, eq-eqb, leb-true}
use Rattle.chew_spec_layout.specs.Layout.{is_layout}
use Rattle.chew_spec_preedit.specs.Buffer.{cells_limit, is_buffer}
use Rattle.chew_spec_editor.specs.Editor.{Editor}
use Rattle.chew_spec_editor.specs.Invariant.{covers, is_editor, is_piece, is_settings, is_steady, is_window_over}
use Rattle.chew_spec_editor.specs.Settings.{Settings}

pub record IsSteady (editor : Editor) : Type 0 where
  pub settings : is_settings editor.settings ≡ true
  pub layout : is_layout editor.layout ≡ true
  pub buffer : is_buffer editor.buffer ≡ true
  pub limit : editor.buffer.limit ≡ editor.settings.buffer
  pub pieces : list_all is_piece editor.pieces ≡ true
  pub window : option_map_or (is_window_over editor.buffer) editor.window true ≡ true

pub IsSteady-from : (editor : Editor) → is_steady editor ≡ true → IsSteady editor
IsSteady-from editor e =
    let settings = and_parts (is_settings editor.settings) _ e in
    let layout = and_parts (is_layout editor.layout) _ settings.1 in
    let buffer = and_parts (is_buffer editor.buffer) _ layout.1 in
    let limit = and_parts (editor.buffer.limit == editor.settings.buffer) _ buffer.1 in
    let pieces = and_parts (list_all is_piece editor.pieces) (option_map_or (is_window_over editor.buffer) editor.window true) limit.1 in
    record {
      settings = settings.0;
      layout = layout.0;
      buffer = buffer.0;
      limit = eqb-true editor.buffer.limit editor.settings.buffer limit.0;
      pieces = pieces.0;
      window = pieces.1;
    }

pub is_steady-from : (editor : Editor) → IsSteady editor → is_steady editor ≡ true
is_steady-from editor h =
    and_from (is_settings editor.settings) _ h.settings
    (and_from (is_layout editor.layout) _ h.layout
    (and_from (is_buffer editor.buffer) _ h.buffer
    (and_from (editor.buffer.limit == editor.settings.buffer) _ (eq-eqb editor.buffer.limit editor.settings.buffer h.limit)
    (and_from (list_all is_piece editor.pieces) _ h.pieces h.window))))

-- an editor is steady, and its pieces cover its syllables
pub record IsEditor (editor : Editor) : Type 0 where
  pub steady : IsSteady editor
  pub covered : covers editor.buffer.cells editor.pieces ≡ true

pub IsEditor-from : (editor : Editor) → is_editor editor ≡ true → IsEditor editor
unfolding is_editor
IsEditor-from editor e =
    let parts = and_parts (is_steady editor) (covers editor.buffer.cells editor.pieces) e in
    record { steady = IsSteady-from editor parts.0; covered = parts.1 }

pub is_editor-from : (editor : Editor) → IsEditor editor → is_editor editor ≡ true
unfolding is_editor
is_editor-from editor h = and_from (is_steady editor) (covers editor.buffer.cells editor.pieces) (is_steady-from editor h.steady) h.covered

-- the numbers of the settings are in their ranges
pub record HasRanges (settings : Settings) : Type 0 where
  pub some_cells : 1 ≤ settings.buffer
  pub few_cells : settings.buffer ≤ 39
  pub some_a_page : 1 ≤ settings.page
  pub few_a_page : settings.page ≤ 10

pub HasRanges-from : (settings : Settings) → is_settings settings ≡ true → HasRanges settings
HasRanges-from settings e =
    let some_cells = and_parts (nat_le 1 settings.buffer) _ e in
    let few_cells = and_parts (nat_le settings.buffer cells_limit) _ some_cells.1 in
    let some_a_page = and_parts (nat_le 1 settings.page) _ few_cells.1 in
    let few_a_page = and_parts (nat_le settings.page 10) _ some_a_page.1 in
    record {
      some_cells = leb-true 1 settings.buffer some_cells.0;
      few_cells = leb-true settings.buffer cells_limit few_cells.0;
      some_a_page = leb-true 1 settings.page some_a_page.0;
      few_a_page = leb-true settings.page 10 few_a_page.0;
    }
