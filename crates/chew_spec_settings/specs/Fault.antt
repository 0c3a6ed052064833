-- Why a text gives no settings.
use Rattle.chew_spec_settings.specs.Name.{SettingName}

-- the causes, in the order in which they are told; Kind and Range are told setting by setting
pub data SettingCause : Type 0 where
  -- the text is longer than 64 KiB
  Size : SettingCause
  -- the text is no table of TOML
  Toml : SettingCause
  -- a key of the table is no setting
  Unknown : SettingCause
  -- the value of a setting is of another kind
  Kind : SettingCause
  -- the value of a setting is outside its range
  Range : SettingCause

-- the setting that has the fault, or Other where it is none's, and the cause
pub record SettingsFault : Type 0 where
  pub key : SettingName
  pub cause : SettingCause
