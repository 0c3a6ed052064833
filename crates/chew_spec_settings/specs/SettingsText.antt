-- The settings that a text gives, or its first fault.
use Rattle.std.specs.Prelude.{ℕ, Bool, true, ◌&&◌, List, Option, None, Result, Ok, Err, length, nat_lt, if◌then◌else◌}
use Rattle.std.specs.Option.{option_map_or}
use Rattle.std.specs.Str.{is_utf8}
use Rattle.toml.specs.Data.{Members, no_members, member}
use Rattle.toml.specs.Parse.{parse_document}
use Rattle.chew_spec_editor.specs.Settings.{Settings}
use Rattle.chew_spec_settings.specs.Fault.{SettingCause, SettingsFault, Size, Toml, Unknown}
use Rattle.chew_spec_settings.specs.Name.{SettingName, Layout, Buffer, Page, Selection, EscapeClears, Learn, Cap, Other, is_setting}
use Rattle.chew_spec_settings.specs.Values.{layout_in, buffer_in, page_in, selection_in, escape_clears_in, learn_in, cap_in}

-- the most bytes of a settings text, 64 KiB
abbrev pub settings_limit : ℕ
settings_limit = 65_536

-- the fault of a setting
abbrev pub at_fault : SettingName → SettingCause → Result Settings SettingsFault
at_fault name cause = Err (record { key = name; cause = cause })

-- what is made of the value of a setting, or the setting's fault
abbrev pub with_setting : {V : Type 0} → SettingName → Result V SettingCause → (V → Result Settings SettingsFault) → Result Settings SettingsFault
with_setting name (Ok value) made = made value
with_setting name (Err cause) made = at_fault name cause

-- the settings of a table, setting by setting in their order
unfoldable pub settings_in : Members → Result Settings SettingsFault
settings_in table =
    with_setting Layout (layout_in table) (λ layout.
    with_setting Buffer (buffer_in table) (λ buffer.
    with_setting Page (page_in table) (λ page.
    with_setting Selection (selection_in table) (λ selection.
    with_setting EscapeClears (escape_clears_in table) (λ escape_clears.
    with_setting Learn (learn_in table) (λ learn.
    with_setting Cap (cap_in table) (λ cap.
    Ok (record {
      layout = layout;
      buffer = buffer;
      page = page;
      selection = selection;
      escape_clears = escape_clears;
      learn = learn;
      cap = cap;
    }))))))))

-- each key of a table is one of a setting
abbrev pub are_settings : Members → Bool
are_settings no_members = true
are_settings (member key value others) = is_setting key && are_settings others

-- the table that a text is, by the rules of TOML, which want UTF-8
abbrev pub table_in : List ℕ → Option Members
table_in text = if is_utf8 text then parse_document text else None

-- the settings of a table whose keys are all known
abbrev pub settings_in_table : Members → Result Settings SettingsFault
settings_in_table table = if are_settings table then settings_in table else at_fault Other Unknown

-- the settings of a text, or its first fault
unfoldable pub settings_of : List ℕ → Result Settings SettingsFault
settings_of text =
    if nat_lt settings_limit (length text) then at_fault Other Size
    else option_map_or settings_in_table (table_in text) (at_fault Other Toml)
