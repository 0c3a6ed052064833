-- Why a run is refused.
use Rattle.std.specs.Prelude.{◌≡◌, ◌⊎◌, ℕ, ◌≤◌, Bool, true, false, List, Option, Some, None, IsNone, Result, Ok, Err, cond, is_ok, length, nat_eq, nat_le}
use Rattle.std.specs.List.{starts_with}
use Rattle.std.proofs.Common.{refl, ap, sym, inl, inr, ◌∙◌, ⊎_elim, arith}
use Rattle.chew_spec_outside.specs.Faults.{Rose}
use Rattle.chew_spec_syllable.specs.Row.{Row}
use Rattle.chew_spec_text.specs.DictionaryText.{RowCause, Size, dictionary_rows, system_limit}
use Rattle.chew_spec_text.specs.Lines.{Fault}
use Rattle.chew_spec_text.specs.Script.{Script, script_of}
use Rattle.chew_spec_image.specs.Fields.{magic}
use Rattle.chew_spec_image.specs.Reading.{image_reading}
use Rattle.chew_spec_editor.specs.Settings.{Settings}
use Rattle.chew_spec_settings.specs.SettingsText.{settings_of}
use Rattle.chew_spec_slots.specs.Keep.{found_keep}
use Rattle.chew_spec_slots.specs.Recovery.{Damaged, Recovered, Recovery, TooLarge, recovered}
use Rattle.chew_spec_program.specs.Command.{is_run_command, names_settings}
use Rattle.chew_spec_program.specs.ImageRows.{rows_of_image, rows_or_refusal}
use Rattle.chew_spec_program.specs.Opening.{Found, Opens, found_or_refusal, inputs_of, opening, or_refusal, ordered, reads_script, reads_system, script_value, settings_value, slots_value, system_value}
use Rattle.chew_spec_program.specs.Reading.{Watched}
use Rattle.chew_spec_program.specs.Refusal.{DiskFailed, Refusal, SlotDamaged, SlotTooLarge, SourceFailed, WrongImage, WrongScript, WrongSettings, WrongSystem, WrongWords, refusal_status}
use Rattle.chew_spec_program.specs.Slots.{Kept, Slots}
use Rattle.chew_spec_program.proofs.ReadOrder.{both-true}

-- a value that was refused: nothing was read, or its own status tells it
abbrev IsRefusedAs : {A : Type 0} → (status : ℕ) → Option A → (none refusal : Refusal) → Type 0
IsRefusedAs status read none refusal = ((refusal ≡ none) × IsNone read) ⊎ (refusal_status refusal ≡ status)

by-fault : {X F : Type 0} (status : ℕ) (wrong : F → Refusal) → ((fault : F) → refusal_status (wrong fault) ≡ status) → (o : Result X F) (refusal : Refusal)
    → or_refusal wrong o ≡ Err refusal → refusal_status refusal ≡ status
by-fault status wrong tells (Ok value) refusal e = absurd (cc e)
by-fault status wrong tells (Err fault) refusal e = let same : wrong fault ≡ refusal = cc e in ap refusal_status (sym same) ∙ tells fault

settings-refused : (named : Bool) (text : Option (List ℕ)) (refusal : Refusal) → settings_value named text ≡ Err refusal → (named ≡ true) × IsRefusedAs 3 text SourceFailed refusal
settings-refused true None refusal e = let same : SourceFailed ≡ refusal = cc e in (refl, inl (sym same, refl))
settings-refused true (Some text) refusal e = (refl, inr (by-fault 3 WrongSettings (λ fault. refl) (settings_of text) refusal e))
settings-refused false text refusal e = absurd (cc e)

ordered-refused : (o : Result (List Row) (Fault RowCause)) (refusal : Refusal) → ordered o ≡ Err refusal → refusal_status refusal ≡ 4
ordered-refused (Ok rows) refusal e = absurd (cc e)
ordered-refused (Err fault) refusal e = let same : WrongSystem fault ≡ refusal = cc e in ap refusal_status (sym same)

image-refused : (b : Bool) (o : Result (List Row) ℕ) (refusal : Refusal) → cond b (rows_or_refusal o) (Err (WrongSystem (record { line = 0; cause = Size }))) ≡ Err refusal → refusal_status refusal ≡ 4
image-refused true (Ok rows) refusal e = absurd (cc e)
image-refused true (Err place) refusal e = let same : WrongImage place ≡ refusal = cc e in ap refusal_status (sym same)
image-refused false o refusal e = let same : WrongSystem (record { line = 0; cause = Size }) ≡ refusal = cc e in ap refusal_status (sym same)

system-refused : (text : Option (List ℕ)) (refusal : Refusal) → system_value text ≡ Err refusal → IsRefusedAs 4 text SourceFailed refusal
system-refused None refusal e = let same : SourceFailed ≡ refusal = cc e in inl (sym same, refl)
system-refused (Some bytes) refusal e = inr (by (starts_with nat_eq bytes magic) e)
  where
    by : (b : Bool) → cond b (rows_of_image bytes) (ordered (dictionary_rows bytes)) ≡ Err refusal → refusal_status refusal ≡ 4
    by true same = image-refused (nat_le (length bytes) system_limit) (image_reading bytes) refusal same
    by false same = ordered-refused (dictionary_rows bytes) refusal same

script-refused : (text : Option (List ℕ)) (refusal : Refusal) → script_value text ≡ Err refusal → IsRefusedAs 5 text SourceFailed refusal
script-refused None refusal e = let same : SourceFailed ≡ refusal = cc e in inl (sym same, refl)
script-refused (Some text) refusal e = inr (by-fault 5 WrongScript (λ fault. refl) (script_of text) refusal e)

found-refused : (seq : ℕ) (recovery : Recovery) (refusal : Refusal) → found_or_refusal seq recovery ≡ Err refusal → refusal_status refusal ≡ 6
found-refused seq (Recovered checkpoint) refusal e = absurd (cc e)
found-refused seq (TooLarge slot len) refusal e = let same : SlotTooLarge slot len ≡ refusal = cc e in ap refusal_status (sym same)
found-refused seq (Damaged slot place) refusal e = let same : SlotDamaged slot place ≡ refusal = cc e in ap refusal_status (sym same)

slots-refused : (slots : Option Slots) (refusal : Refusal) → slots_value slots ≡ Err refusal → IsRefusedAs 6 slots DiskFailed refusal
slots-refused None refusal e = let same : DiskFailed ≡ refusal = cc e in inl (sym same, refl)
slots-refused (Some slots) refusal e = inr (found-refused (found_keep slots.zero slots.one).seq (recovered slots.zero slots.one) refusal e)

-- the first of four that is refused
abbrev First : {A B C D : Type 0} → Result A Refusal → Result B Refusal → Result C Refusal → Result D Refusal → Refusal → Type 0
First a b c d refusal =
    (a ≡ Err refusal)
    ⊎ ((is_ok a ≡ true) × ((b ≡ Err refusal) ⊎ ((is_ok b ≡ true) × ((c ≡ Err refusal) ⊎ ((is_ok c ≡ true) × (d ≡ Err refusal))))))

first : (a : Result Settings Refusal) (b : Result (List Row) Refusal) (c : Result Script Refusal) (d : Result Found Refusal) (refusal : Refusal)
    → inputs_of a b c d ≡ Err refusal → First a b c d refusal
first (Err r) b c d refusal e = inl (let same : r ≡ refusal = cc e in ap Err same)
first (Ok s) (Err r) c d refusal e = inr (refl, inl (let same : r ≡ refusal = cc e in ap Err same))
first (Ok s) (Ok rows) (Err r) d refusal e = inr (refl, inr (refl, inl (let same : r ≡ refusal = cc e in ap Err same)))
first (Ok s) (Ok rows) (Ok said) (Err r) refusal e = inr (refl, inr (refl, inr (refl, (let same : r ≡ refusal = cc e in ap Err same))))
first (Ok s) (Ok rows) (Ok said) (Ok found) refusal e = absurd (cc e)

-- why a run is refused but for want of memory
pub data Cause (words : List (List ℕ)) (settings system script : Watched) (disk : Kept) (refusal : Refusal) : Type 0 where
  ByWords : is_run_command words ≡ false → refusal ≡ WrongWords → Cause words settings system script disk refusal
  BySettings : refusal ≡ SourceFailed → Rose settings.faults_before settings.faults_now → Cause words settings system script disk refusal
  BySystem : refusal ≡ SourceFailed → Rose system.faults_before system.faults_now → Cause words settings system script disk refusal
  ByScript : refusal ≡ SourceFailed → Rose script.faults_before script.faults_now → Cause words settings system script disk refusal
  ByDisk : refusal ≡ DiskFailed → Rose disk.faults_before disk.faults_now → Cause words settings system script disk refusal
  ByContent : 3 ≤ refusal_status refusal → refusal_status refusal ≤ 6 → Cause words settings system script disk refusal

pub opens-cause : (words : List (List ℕ)) (settings system script : Watched) (disk : Kept) (refusal : Refusal) → Opens words settings system script disk (Err refusal)
    → Cause words settings system script disk refusal
unfolding opening
opens-cause words settings system script disk refusal opens = by (is_run_command words) refl (sym opens.gives)
  where
    set : Result Settings Refusal
    set = settings_value (names_settings words) opens.settings_text

    ranged : (status : ℕ) → 3 ≤ status → status ≤ 6 → refusal_status refusal ≡ status → Cause words settings system script disk refusal
    ranged status low high e = ByContent (omega arith) (omega arith)

    at-slots : reads_script words opens.settings_text opens.system_text ≡ true → is_ok (script_value opens.script_text) ≡ true → slots_value opens.slots ≡ Err refusal
        → Cause words settings system script disk refusal
    at-slots reads ok e =
        ⊎_elim (λ (none : (refusal ≡ DiskFailed) × IsNone opens.slots).
        ByDisk none.0 ((opens.slots_read.read (both-true (reads_script words opens.settings_text opens.system_text) (is_ok (script_value opens.script_text)) reads ok)).failed none.1))
        (λ status. ranged 6 (omega arith) (omega arith) status) (slots-refused opens.slots refusal e)

    at-script : reads_script words opens.settings_text opens.system_text ≡ true → script_value opens.script_text ≡ Err refusal → Cause words settings system script disk refusal
    at-script reads e =
        ⊎_elim (λ (none : (refusal ≡ SourceFailed) × IsNone opens.script_text). ByScript none.0 ((opens.script_read.read reads).failed none.1))
        (λ status. ranged 5 (omega arith) (omega arith) status) (script-refused opens.script_text refusal e)

    at-system : reads_system words opens.settings_text ≡ true → system_value opens.system_text ≡ Err refusal → Cause words settings system script disk refusal
    at-system reads e =
        ⊎_elim (λ (none : (refusal ≡ SourceFailed) × IsNone opens.system_text). BySystem none.0 ((opens.system_read.read reads).failed none.1))
        (λ status. ranged 4 (omega arith) (omega arith) status) (system-refused opens.system_text refusal e)

    at-settings : set ≡ Err refusal → Cause words settings system script disk refusal
    at-settings e =
        let why = settings-refused (names_settings words) opens.settings_text refusal e in
        ⊎_elim (λ (none : (refusal ≡ SourceFailed) × IsNone opens.settings_text). BySettings none.0 ((opens.settings_read.read why.0).failed none.1))
        (λ status. ranged 3 (omega arith) (omega arith) status) why.1

    by : (b : Bool) → is_run_command words ≡ b
        → cond b (inputs_of set (system_value opens.system_text) (script_value opens.script_text) (slots_value opens.slots)) (Err WrongWords) ≡ Err refusal
        → Cause words settings system script disk refusal
    by false is e = ByWords is (let same : WrongWords ≡ refusal = cc e in sym same)
    by true is e =
        ⊎_elim at-settings
        (λ ok. ⊎_elim (at-system (both-true (is_run_command words) (is_ok set) is ok.0))
        (λ fine. ⊎_elim (at-script (both-true (reads_system words opens.settings_text) (is_ok (system_value opens.system_text)) (both-true (is_run_command words) (is_ok set) is ok.0) fine.0))
        (λ said. at-slots
        (both-true (reads_system words opens.settings_text) (is_ok (system_value opens.system_text)) (both-true (is_run_command words) (is_ok set) is ok.0) fine.0) said.0 said.1)
        fine.1) ok.1)
        (first set (system_value opens.system_text) (script_value opens.script_text) (slots_value opens.slots) refusal e)
