-- What the value of each setting says.
use Rattle.std.specs.Prelude.{ℕ, pos, negsuc, Bool, ◌&&◌, ◌==◌, List, Option, Some, None, Result, Ok, Err, bytes_eq, codes, length, nat_le, if◌then◌else◌}
use Rattle.std.specs.List.{list_all}
use Rattle.std.specs.Option.{option_map_or}
use Rattle.toml.specs.Data.{Data, string, integer, boolean, Members, get_member}
use Rattle.chew_spec_layout.specs.Layout as layout
use Rattle.chew_spec_editor.specs.Invariant.{is_distinct, is_selection_key}
use Rattle.chew_spec_editor.specs.Settings.{standard_settings}
use Rattle.chew_spec_settings.specs.Fault.{SettingCause, Kind, Range}
use Rattle.chew_spec_settings.specs.Name.{SettingName, Layout, Buffer, Page, Selection, EscapeClears, Learn, Cap, setting_word}

-- a number of at least 1 and at most this
abbrev pub integer_up_to : ℕ → Data → Result ℕ SettingCause
integer_up_to greatest (integer (pos number)) = if nat_le 1 number && nat_le number greatest then Ok number else Err Range
integer_up_to greatest (integer (negsuc number)) = Err Range
integer_up_to greatest _ = Err Kind

-- yes or no
abbrev pub truth : Data → Result Bool SettingCause
truth (boolean value) = Ok value
truth _ = Err Kind

-- the layout of a name
abbrev pub layout_named : List ℕ → Option layout.Kind
layout_named name =
    if bytes_eq name (codes "default") then Some layout.Standard
    else if bytes_eq name (codes "eten") then Some layout.Eten
    else if bytes_eq name (codes "hsu") then Some layout.Hsu
    else if bytes_eq name (codes "et26") then Some layout.Et26
    else if bytes_eq name (codes "pinyin") then Some layout.Pinyin
    else None

-- a layout by its name
abbrev pub layout_value : Data → Result layout.Kind SettingCause
layout_value (string name) = option_map_or Ok (layout_named name) (Err Range)
layout_value _ = Err Kind

-- ten different bytes that may be selection keys
abbrev pub selection_value : Data → Result (List ℕ) SettingCause
selection_value (string keys) =
    if length keys == 10 && (list_all is_selection_key keys && is_distinct keys) then Ok keys else Err Range
selection_value _ = Err Kind

-- what a table says of a setting, or what holds where it says nothing
abbrev pub said : {V : Type 0} → SettingName → (Data → Result V SettingCause) → V → Members → Result V SettingCause
said name value standard table = option_map_or value (get_member (setting_word name) table) (Ok standard)

-- what a table says of each setting
abbrev pub layout_in : Members → Result layout.Kind SettingCause
layout_in = said Layout layout_value standard_settings.layout

abbrev pub buffer_in : Members → Result ℕ SettingCause
buffer_in = said Buffer (integer_up_to 39) standard_settings.buffer

abbrev pub page_in : Members → Result ℕ SettingCause
page_in = said Page (integer_up_to 10) standard_settings.page

abbrev pub selection_in : Members → Result (List ℕ) SettingCause
selection_in = said Selection selection_value standard_settings.selection

abbrev pub escape_clears_in : Members → Result Bool SettingCause
escape_clears_in = said EscapeClears truth standard_settings.escape_clears

abbrev pub learn_in : Members → Result Bool SettingCause
learn_in = said Learn truth standard_settings.learn

abbrev pub cap_in : Members → Result ℕ SettingCause
cap_in = said Cap (integer_up_to 200_000) standard_settings.cap
