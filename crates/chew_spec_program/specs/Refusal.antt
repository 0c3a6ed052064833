-- Why a run is refused before its first key, and the line and the status that tell it.
use Rattle.std.specs.Prelude.{ℕ, List, ◌∷◌, ◌++◌, codes, decimal}
use Rattle.chew_spec_text.specs.DictionaryText as row
use Rattle.chew_spec_text.specs.DictionaryText.{RowCause}
use Rattle.chew_spec_text.specs.Line.{with_line_feed}
use Rattle.chew_spec_text.specs.Lines.{Fault}
use Rattle.chew_spec_text.specs.Script as script
use Rattle.chew_spec_text.specs.Script.{ScriptCause}
use Rattle.chew_spec_settings.specs.Fault as setting
use Rattle.chew_spec_settings.specs.Fault.{SettingCause, SettingsFault}
use Rattle.chew_spec_settings.specs.Name.{setting_word}

-- the word of each cause of a dictionary's fault
abbrev pub row_cause_word : RowCause → List ℕ
row_cause_word row.Size = codes "size"
row_cause_word row.Phrase = codes "phrase"
row_cause_word row.Frequency = codes "frequency"
row_cause_word row.Syllable = codes "syllable"
row_cause_word row.Lengths = codes "lengths"
row_cause_word row.Twice = codes "twice"
row_cause_word row.Rows = codes "rows"

-- the word of each cause of a script's fault
abbrev pub script_cause_word : ScriptCause → List ℕ
script_cause_word script.Size = codes "size"
script_cause_word script.Byte = codes "byte"
script_cause_word script.Form = codes "line"
script_cause_word script.Context = codes "context"
script_cause_word script.Key = codes "key"
script_cause_word script.Keys = codes "keys"
script_cause_word script.Rounds = codes "rounds"

-- the word of each cause of a fault of settings
abbrev pub setting_cause_word : SettingCause → List ℕ
setting_cause_word setting.Size = codes "size"
setting_cause_word setting.Toml = codes "toml"
setting_cause_word setting.Unknown = codes "unknown"
setting_cause_word setting.Kind = codes "kind"
setting_cause_word setting.Range = codes "range"

-- why a run is refused before its first key
pub data Refusal : Type 0 where
  -- the words have no form of a command
  WrongWords : Refusal
  -- the settings are not in their grammar
  WrongSettings : (fault : SettingsFault) → Refusal
  -- the system or the script is not in its grammar
  WrongSystem : (fault : Fault RowCause) → Refusal
  WrongScript : (fault : Fault ScriptCause) → Refusal
  -- the system is no image: its first faulty place
  WrongImage : (place : ℕ) → Refusal
  -- a slot of the disk is longer than 2^28 bytes, with its length; or it is open and damaged, at its first faulty place
  SlotTooLarge : (slot len : ℕ) → Refusal
  SlotDamaged : (slot place : ℕ) → Refusal
  -- a source failed
  SourceFailed : Refusal
  -- the disk failed
  DiskFailed : Refusal
  -- memory was wanting
  NoMemory : Refusal

-- the name of an input, the number of a line, and the word of a cause
abbrev pub fault_line : List ℕ → ℕ → List ℕ → List ℕ
fault_line input line word = input ++ (32 ∷ (decimal line ++ (32 ∷ with_line_feed word)))

-- the word of a setting, and that of a cause
abbrev pub setting_line : List ℕ → List ℕ → List ℕ
setting_line key word = codes "settings" ++ (32 ∷ (key ++ (32 ∷ with_line_feed word)))

-- the number of a slot, what is wrong with it, and a number of bytes
abbrev pub slot_line : ℕ → List ℕ → ℕ → List ℕ
slot_line slot wrong number = codes "slot " ++ (decimal slot ++ (32 ∷ (wrong ++ (32 ∷ with_line_feed (decimal number)))))

-- the line that tells a refusal
abbrev pub refusal_line : Refusal → List ℕ
refusal_line WrongWords = with_line_feed (codes "words")
refusal_line (WrongSettings fault) = setting_line (setting_word fault.key) (setting_cause_word fault.cause)
refusal_line (WrongSystem fault) = fault_line (codes "system") fault.line (row_cause_word fault.cause)
refusal_line (WrongScript fault) = fault_line (codes "script") fault.line (script_cause_word fault.cause)
refusal_line (WrongImage place) = codes "system image " ++ with_line_feed (decimal place)
refusal_line (SlotTooLarge slot len) = slot_line slot (codes "too large") len
refusal_line (SlotDamaged slot place) = slot_line slot (codes "damaged") place
refusal_line SourceFailed = with_line_feed (codes "source")
refusal_line DiskFailed = with_line_feed (codes "disk")
refusal_line NoMemory = with_line_feed (codes "memory")

-- the status of a refused run
abbrev pub refusal_status : Refusal → ℕ
refusal_status WrongWords = 2
refusal_status (WrongSettings fault) = 3
refusal_status (WrongSystem fault) = 4
refusal_status (WrongScript fault) = 5
refusal_status (WrongImage place) = 4
refusal_status (SlotTooLarge slot len) = 6
refusal_status (SlotDamaged slot place) = 6
refusal_status SourceFailed = 7
refusal_status DiskFailed = 9
refusal_status NoMemory = 10
