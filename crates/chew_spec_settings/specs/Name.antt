-- The names of the settings.
use Rattle.std.specs.Prelude.{ℕ, Bool, List, [], ◌∷◌, bytes_eq, codes}
use Rattle.std.specs.List.{list_any}

-- a setting, or something else that a text may speak of
pub data SettingName : Type 0 where
  Layout : SettingName
  Buffer : SettingName
  Page : SettingName
  Selection : SettingName
  EscapeClears : SettingName
  Learn : SettingName
  Cap : SettingName
  Other : SettingName

-- the word of each setting: its key in a text, and its name where a fault is told
abbrev pub setting_word : SettingName → List ℕ
setting_word Layout = codes "layout"
setting_word Buffer = codes "buffer"
setting_word Page = codes "page"
setting_word Selection = codes "selection"
setting_word EscapeClears = codes "escape_clears"
setting_word Learn = codes "learn"
setting_word Cap = codes "cap"
setting_word Other = codes "?"

-- the settings in the order in which they are read
abbrev pub settings_in_order : List SettingName
settings_in_order = Layout ∷ (Buffer ∷ (Page ∷ (Selection ∷ (EscapeClears ∷ (Learn ∷ (Cap ∷ []))))))

-- the key is one of a setting
abbrev pub is_setting : List ℕ → Bool
is_setting key = list_any (λ name. bytes_eq key (setting_word name)) settings_in_order
