-- The opening of a run: its inputs, or why it is refused before its first key.
use Rattle.std.specs.Prelude.{◌≡◌, ◌⊎◌, ℕ, Bool, true, ◌&&◌, List, Option, Some, None, Result, Ok, Err, is_ok, nat_eq, if◌then◌else◌}
use Rattle.std.specs.List.{starts_with}
use Rattle.chew_spec_syllable.specs.Row.{Row, image_cmp}
use Rattle.chew_spec_dictionary.specs.History.{Point, start_of}
use Rattle.chew_spec_dictionary.specs.Order.{in_order}
use Rattle.chew_spec_text.specs.DictionaryText.{RowCause, dictionary_rows, system_limit}
use Rattle.chew_spec_text.specs.Lines.{Fault}
use Rattle.chew_spec_text.specs.Script.{Script, script_limit, script_of}
use Rattle.chew_spec_image.specs.Fields.{magic}
use Rattle.chew_spec_editor.specs.Settings.{Settings, standard_settings}
use Rattle.chew_spec_settings.specs.SettingsText.{settings_limit, settings_of}
use Rattle.chew_spec_slots.specs.Keep.{found_keep}
use Rattle.chew_spec_slots.specs.Recovery.{Recovery, Recovered, TooLarge, Damaged, recovered}
use Rattle.chew_spec_slots.specs.Slot.{Checkpoint}
use Rattle.chew_spec_session.specs.Context.{Basis}
use Rattle.chew_spec_program.specs.Command.{is_run_command, names_settings}
use Rattle.chew_spec_program.specs.ImageRows.{rows_of_image}
use Rattle.chew_spec_program.specs.Reading.{IsReadWhere, Watched}
use Rattle.chew_spec_program.specs.Refusal.{Refusal, DiskFailed, NoMemory, SlotDamaged, SlotTooLarge, SourceFailed, WrongScript, WrongSettings, WrongSystem, WrongWords}
use Rattle.chew_spec_program.specs.Slots.{AreReadWhere, Kept, Slots}

-- the inputs of a run: what it stands on, what its script says, and the number of the checkpoint that was recovered, 0
-- where there was none
pub record Inputs : Type 0 where
  pub basis : Basis
  pub script : Script
  pub seq : ℕ

-- what recovery found: a map and its life, and the number of the checkpoint
pub record Found : Type 0 where
  pub checkpoint : Checkpoint
  pub seq : ℕ

-- a value, or the refusal that its fault makes
abbrev pub or_refusal : {X F : Type 0} → (F → Refusal) → Result X F → Result X Refusal
or_refusal refusal (Ok value) = Ok value
or_refusal refusal (Err fault) = Err (refusal fault)

-- the value of what was read of a source; nothing was read of one that failed
abbrev pub value_of : {X : Type 0} → (List ℕ → Result X Refusal) → Option (List ℕ) → Result X Refusal
value_of value None = Err SourceFailed
value_of value (Some text) = value text

-- the settings of their text where a run names settings, and else the standard ones
abbrev pub settings_value : (named : Bool) → Option (List ℕ) → Result Settings Refusal
settings_value named text = if named then value_of (λ bytes. or_refusal WrongSettings (settings_of bytes)) text else Ok standard_settings

-- the rows of a dictionary's text, put in image order
abbrev pub ordered : Result (List Row) (Fault RowCause) → Result (List Row) Refusal
ordered (Ok rows) = Ok (in_order image_cmp rows)
ordered (Err fault) = Err (WrongSystem fault)

-- the rows of a system: an image where its first eight bytes say so, and else a text
abbrev pub system_rows : List ℕ → Result (List Row) Refusal
system_rows bytes = if starts_with nat_eq bytes magic then rows_of_image bytes else ordered (dictionary_rows bytes)

abbrev pub system_value : Option (List ℕ) → Result (List Row) Refusal
system_value bytes = value_of system_rows bytes

-- what the script says
abbrev pub script_value : Option (List ℕ) → Result Script Refusal
script_value text = value_of (λ bytes. or_refusal WrongScript (script_of bytes)) text

-- what was recovered, or the refusal of a slot
abbrev pub found_or_refusal : (seq : ℕ) → Recovery → Result Found Refusal
found_or_refusal seq (Recovered checkpoint) = Ok (record { checkpoint = checkpoint; seq = seq })
found_or_refusal seq (TooLarge slot len) = Err (SlotTooLarge slot len)
found_or_refusal seq (Damaged slot place) = Err (SlotDamaged slot place)

-- what the slots that were read recover to; none were read of a disk that failed
abbrev pub slots_value : Option Slots → Result Found Refusal
slots_value None = Err DiskFailed
slots_value (Some slots) = found_or_refusal (found_keep slots.zero slots.one).seq (recovered slots.zero slots.one)

-- the user's dictionary as it was recovered, which takes as many pairs as the settings say
abbrev pub start_from : Settings → Checkpoint → Point
start_from settings checkpoint = start_of (record { pairs = checkpoint.rows; life = checkpoint.life; cap = settings.cap })

-- the inputs of these settings, rows, script and recovered dictionary
abbrev pub inputs_with : Settings → List Row → Script → Found → Inputs
inputs_with settings rows script found = record {
  basis = record { system = rows; settings = settings; start = start_from settings found.checkpoint };
  script = script;
  seq = found.seq;
}

-- the inputs, or the first refusal: the settings come before the system, this before the script, and this before the slots
abbrev pub inputs_of : Result Settings Refusal → Result (List Row) Refusal → Result Script Refusal → Result Found Refusal → Result Inputs Refusal
inputs_of (Err refusal) rows script found = Err refusal
inputs_of (Ok settings) (Err refusal) script found = Err refusal
inputs_of (Ok settings) (Ok rows) (Err refusal) found = Err refusal
inputs_of (Ok settings) (Ok rows) (Ok script) (Err refusal) = Err refusal
inputs_of (Ok settings) (Ok rows) (Ok script) (Ok found) = Ok (inputs_with settings rows script found)

-- the inputs of a run with these words by what was read of its sources and of its slots, or its refusal: the words come
-- before all
unfoldable pub opening : List (List ℕ) → (settings system script : Option (List ℕ)) → Option Slots → Result Inputs Refusal
opening words settings system script slots =
    if is_run_command words
    then inputs_of (settings_value (names_settings words) settings) (system_value system) (script_value script) (slots_value slots)
    else Err WrongWords

-- the system is read where the words are those of a run and the settings were not refused; the script where the system
-- was not refused either; and the slots where the script was not
abbrev pub reads_system : List (List ℕ) → (settings : Option (List ℕ)) → Bool
reads_system words settings = is_run_command words && is_ok (settings_value (names_settings words) settings)

abbrev pub reads_script : List (List ℕ) → (settings system : Option (List ℕ)) → Bool
reads_script words settings system = reads_system words settings && is_ok (system_value system)

abbrev pub reads_slots : List (List ℕ) → (settings system script : Option (List ℕ)) → Bool
reads_slots words settings system script = reads_script words settings system && is_ok (script_value script)

-- these texts were read of the three sources and these slots of the disk, each up to one byte past its limit and where
-- nothing before it was refused, and they give this
pub record Opens (words : List (List ℕ)) (settings system script : Watched) (disk : Kept) (opened : Result Inputs Refusal) : Type 0 where
  pub settings_text : Option (List ℕ)
  pub system_text : Option (List ℕ)
  pub script_text : Option (List ℕ)
  pub slots : Option Slots
  pub settings_read : IsReadWhere (names_settings words) settings settings_limit settings_text
  pub system_read : IsReadWhere (reads_system words settings_text) system system_limit system_text
  pub script_read : IsReadWhere (reads_script words settings_text system_text) script script_limit script_text
  pub slots_read : AreReadWhere (reads_slots words settings_text system_text script_text) disk slots
  pub gives : opened ≡ opening words settings_text system_text script_text slots

-- memory was wanting, behind the words
pub record WantedMemory (words : List (List ℕ)) (opened : Result Inputs Refusal) : Type 0 where
  pub command : is_run_command words ≡ true
  pub refused : opened ≡ Err NoMemory

-- what the opening of a run gives
abbrev pub IsOpening : List (List ℕ) → (settings system script : Watched) → Kept → Result Inputs Refusal → Type 0
IsOpening words settings system script disk opened = Opens words settings system script disk opened ⊎ WantedMemory words opened
