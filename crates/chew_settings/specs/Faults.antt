-- The definition's names and causes that the code's stand for, and the fault that is told.
use Rattle.std.specs.Prelude.{◌≡◌, Result, Ok, Err}
use Rattle.std.specs.Bool.{⊤}
use Rattle.chew_spec_editor.specs.Settings.{Settings}
use Rattle.chew_spec_settings.specs.Fault as spec
use Rattle.chew_spec_settings.specs.Name as name
use Rattle.chew_settings.specs.declared.fault.SettingCause.{SettingCause}
use Rattle.chew_settings.specs.declared.fault.SettingCause.TheVariants.{Size, Toml, Unknown, Kind, Range}
use Rattle.chew_settings.specs.declared.fault.SettingsFault.{SettingsFault}
use Rattle.chew_settings.specs.declared.fault.SettingsFault.TheVariants.{Bad, NoMemory}
use Rattle.chew_settings.specs.declared.keys.SettingName.{SettingName}
use Rattle.chew_settings.specs.declared.keys.SettingName.TheVariants.{Layout, Buffer, Page, Selection, EscapeClears, Learn, Cap, Other}

-- the definition's name
abbrev pub name_of : SettingName → name.SettingName
name_of Layout = name.Layout
name_of Buffer = name.Buffer
name_of Page = name.Page
name_of Selection = name.Selection
name_of EscapeClears = name.EscapeClears
name_of Learn = name.Learn
name_of Cap = name.Cap
name_of Other = name.Other

-- the definition's cause
abbrev pub cause_of : SettingCause → spec.SettingCause
cause_of Size = spec.Size
cause_of Toml = spec.Toml
cause_of Unknown = spec.Unknown
cause_of Kind = spec.Kind
cause_of Range = spec.Range

-- what is told of a setting, as the definition has it, with the value seen this way
abbrev pub told_by : {X Y : Type 0} → (X → Y) → Result X SettingCause → Result Y spec.SettingCause
told_by view (Ok value) = Ok (view value)
told_by view (Err cause) = Err (cause_of cause)

-- the same with the value as it is
abbrev pub told : {X : Type 0} → Result X SettingCause → Result X spec.SettingCause
told outcome = told_by (λ value. value) outcome

-- the fault that is told of a text is the one that it has; for the want of memory nothing is said
abbrev pub IsFaultOf : Result Settings spec.SettingsFault → SettingsFault → Type 0
IsFaultOf outcome (Bad key cause) = outcome ≡ Err (record { key = name_of key; cause = cause_of cause })
IsFaultOf outcome NoMemory = ⊤
