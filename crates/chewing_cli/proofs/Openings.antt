-- What the opening of a run gives: the first refusal, or the inputs.
use Rattle.std.specs.Prelude.{◌≡◌, ℕ, Bool, true, false, ◌&&◌, List, Option, Some, None, Result, Ok, Err, is_ok}
use Rattle.std.proofs.Common.{refl, ap, sym, inl, inr, ◌∙◌, ⊎_elim, arith, true≢false}
use Rattle.std.proofs.lemmas.Bool.{cond-true, cond-false}
use Rattle.chew_spec_syllable.specs.Row.{Row}
use Rattle.chew_spec_text.specs.DictionaryText.{system_limit}
use Rattle.chew_spec_text.specs.Script.{Script, script_of, script_limit}
use Rattle.chew_spec_disk.specs.Disk.{DiskState}
use Rattle.chew_spec_editor.specs.Settings.{Settings}
use Rattle.chew_spec_settings.specs.SettingsText.{settings_limit}
use Rattle.chew_spec_program.specs.Command.{Command, Run, Build, Check, Dump, Make, command_of, has_settings, is_run, is_run_command, names_settings}
use Rattle.chew_spec_program.specs.Opening.{Found, IsOpening, inputs_of, opening, or_refusal, reads_script, reads_slots, reads_system}
use Rattle.chew_spec_program.specs.Opening.{script_value, settings_value, slots_value, system_rows, system_value}
use Rattle.chew_spec_program.specs.Reading.{IsRead, IsReadWhere, IsUnread, Watched, watched}
use Rattle.chew_spec_program.specs.Refusal.{Refusal, NoMemory, WrongScript, WrongWords}
use Rattle.chew_spec_program.specs.Slots.{AreRead, AreReadWhere, IsUncalled, IsUnwritten, Kept, Slots, kept}
use Rattle.chewing_cli.specs.Opens.{Finds, FindsOrNoMemory, Reads, ReadsOrNoMemory, Sets, SetsOrNoMemory}

-- what was read where it is, and what was not
unread : (reads : Bool) (source : Watched) (limit : ℕ) (text : Option (List ℕ)) → reads ≡ false → IsUnread source → IsReadWhere reads source limit text
unread reads source limit text e is = record { read = λ was. absurd (true≢false (sym was ∙ e)); unread = λ _. is }

was_read : (reads : Bool) (source : Watched) (limit : ℕ) (text : Option (List ℕ)) → reads ≡ true → IsRead source limit text
    → IsReadWhere reads source limit text
was_read reads source limit text e is = record { read = λ _. is; unread = λ wrong. absurd (true≢false (sym e ∙ wrong)) }

uncalled : (reads : Bool) (disk : Kept) (slots : Option Slots) → reads ≡ false → IsUncalled disk → AreReadWhere reads disk slots
uncalled reads disk slots e is = record { read = λ was. absurd (true≢false (sym was ∙ e)); unread = λ _. is }

called : (reads : Bool) (disk : Kept) (slots : Option Slots) → reads ≡ true → AreRead disk slots → AreReadWhere reads disk slots
called reads disk slots e is = record { read = λ _. is; unread = λ wrong. absurd (true≢false (sym e ∙ wrong)) }

both : (a b : Bool) (v : Bool) → a ≡ true → b ≡ v → (a && b) ≡ v
both true b v e f = f
both false b v e f = absurd (true≢false (sym e))

first_false : (a b : Bool) → a ≡ false → (a && b) ≡ false
first_false true b e = absurd (true≢false e)
first_false false b e = refl

-- a value, and a refusal
is_value : {X : Type 0} (outcome : Result X Refusal) (value : X) → Ok value ≡ outcome → is_ok outcome ≡ true
is_value outcome value e = ap is_ok (sym e)

is_refused : {X : Type 0} (outcome : Result X Refusal) (refusal : Refusal) → Err refusal ≡ outcome → is_ok outcome ≡ false
is_refused outcome refusal e = ap is_ok (sym e)

-- only a run names settings
unnamed : (command : Option Command) → is_run command ≡ false → has_settings command ≡ false
unnamed None e = refl
unnamed (Some (Run trace system script folder settings)) e = absurd (true≢false e)
unnamed (Some (Build from to)) e = refl
unnamed (Some (Check from)) e = refl
unnamed (Some (Dump from)) e = refl
unnamed (Some (Make number)) e = refl

-- wrong words come first
pub opens_words : (words : List (List ℕ)) (settings system script : Watched) (disk : Kept) → is_run_command words ≡ false
    → IsUnread settings → IsUnread system → IsUnread script → IsUncalled disk → IsOpening words settings system script disk (Err WrongWords)
unfolding opening
opens_words words settings system script disk e unread_settings unread_system unread_script not_called =
    let no_system : reads_system words None ≡ false = first_false (is_run_command words) (is_ok (settings_value (names_settings words) None)) e in
    let no_script : reads_script words None None ≡ false = first_false (reads_system words None) false no_system in
    let no_slots : reads_slots words None None None ≡ false = first_false (reads_script words None None) false no_script in
    inl (record {
      settings_text = None;
      system_text = None;
      script_text = None;
      slots = None;
      settings_read = unread (names_settings words) settings settings_limit None (unnamed (command_of words) e) unread_settings;
      system_read = unread (reads_system words None) system system_limit None no_system unread_system;
      script_read = unread (reads_script words None None) script script_limit None no_script unread_script;
      slots_read = uncalled (reads_slots words None None None) disk None no_slots not_called;
      gives = sym (cond-false _ _ _ e);
    })

-- then a refusal of the settings
pub opens_settings : (words : List (List ℕ)) (settings system script : Watched) (disk : Kept) (refusal : Refusal) → is_run_command words ≡ true
    → IsUnread system → IsUnread script → IsUncalled disk
    → SetsOrNoMemory (names_settings words) settings (Err refusal) → IsOpening words settings system script disk (Err refusal)
unfolding opening
opens_settings words settings system script disk refusal e unread_system unread_script not_called sets =
    ⊎_elim (λ none. inr (record { command = e; refused = let same : refusal ≡ NoMemory = cc in ap Err same }))
    (λ (was : Sets (names_settings words) settings (Err refusal)).
    let no_system : reads_system words was.text ≡ false =
    both (is_run_command words) (is_ok (settings_value (names_settings words) was.text)) false e (is_refused _ refusal was.gives) in
    let no_script : reads_script words was.text None ≡ false = first_false (reads_system words was.text) false no_system in
    let no_slots : reads_slots words was.text None None ≡ false = first_false (reads_script words was.text None) false no_script in
    inl (record {
      settings_text = was.text;
      system_text = None;
      script_text = None;
      slots = None;
      settings_read = was.read;
      system_read = unread (reads_system words was.text) system system_limit None no_system unread_system;
      script_read = unread (reads_script words was.text None) script script_limit None no_script unread_script;
      slots_read = uncalled (reads_slots words was.text None None) disk None no_slots not_called;
      gives = ap (λ (s : Result Settings Refusal). inputs_of s (system_value None) (script_value None) (slots_value None)) was.gives ∙ sym (cond-true _ _ _ e);
    })) sets

-- then a refusal of the system
pub opens_system : (words : List (List ℕ)) (settings system script : Watched) (disk : Kept) (set : Settings) (refusal : Refusal) → is_run_command words ≡ true
    → IsUnread script → IsUncalled disk
    → SetsOrNoMemory (names_settings words) settings (Ok set) → ReadsOrNoMemory system_rows system_limit system (Err refusal)
    → IsOpening words settings system script disk (Err refusal)
unfolding opening
opens_system words settings system script disk set refusal e unread_script not_called sets reads =
    ⊎_elim (λ none. absurd (cc none))
    (λ (had : Sets (names_settings words) settings (Ok set)).
    ⊎_elim (λ none. inr (record { command = e; refused = let same : refusal ≡ NoMemory = cc in ap Err same }))
    (λ (was : Reads system_rows system_limit system (Err refusal)).
    let a_system : reads_system words had.text ≡ true =
    both (is_run_command words) (is_ok (settings_value (names_settings words) had.text)) true e (is_value _ set had.gives) in
    let no_script : reads_script words had.text was.text ≡ false =
    both (reads_system words had.text) (is_ok (system_value was.text)) false a_system (is_refused _ refusal was.gives) in
    let no_slots : reads_slots words had.text was.text None ≡ false = first_false (reads_script words had.text was.text) false no_script in
    inl (record {
      settings_text = had.text;
      system_text = was.text;
      script_text = None;
      slots = None;
      settings_read = had.read;
      system_read = was_read (reads_system words had.text) system system_limit was.text a_system was.read;
      script_read = unread (reads_script words had.text was.text) script script_limit None no_script unread_script;
      slots_read = uncalled (reads_slots words had.text was.text None) disk None no_slots not_called;
      gives =
          ap (λ (y : Result (List Row) Refusal). inputs_of (Ok set) y (script_value None) (slots_value None)) was.gives
          ∙ ap (λ (s : Result Settings Refusal). inputs_of s (system_value was.text) (script_value None) (slots_value None)) had.gives
          ∙ sym (cond-true _ _ _ e);
    })) reads) sets

-- then a refusal of the script
pub opens_script : (words : List (List ℕ)) (settings system script : Watched) (disk : Kept) (set : Settings) (rows : List Row) (refusal : Refusal)
    → is_run_command words ≡ true → IsUncalled disk
    → SetsOrNoMemory (names_settings words) settings (Ok set) → ReadsOrNoMemory system_rows system_limit system (Ok rows)
    → ReadsOrNoMemory (λ text. or_refusal WrongScript (script_of text)) script_limit script (Err refusal)
    → IsOpening words settings system script disk (Err refusal)
unfolding opening
opens_script words settings system script disk set rows refusal e not_called sets reads keys =
    ⊎_elim (λ none. absurd (cc none))
    (λ (had : Sets (names_settings words) settings (Ok set)).
    ⊎_elim (λ none. absurd (cc none))
    (λ (was : Reads system_rows system_limit system (Ok rows)).
    ⊎_elim (λ none. inr (record { command = e; refused = let same : refusal ≡ NoMemory = cc in ap Err same }))
    (λ (also : Reads (λ text. or_refusal WrongScript (script_of text)) script_limit script (Err refusal)).
    let a_system : reads_system words had.text ≡ true =
    both (is_run_command words) (is_ok (settings_value (names_settings words) had.text)) true e (is_value _ set had.gives) in
    let a_script : reads_script words had.text was.text ≡ true =
    both (reads_system words had.text) (is_ok (system_value was.text)) true a_system (is_value _ rows was.gives) in
    let no_slots : reads_slots words had.text was.text also.text ≡ false =
    both (reads_script words had.text was.text) (is_ok (script_value also.text)) false a_script (is_refused _ refusal also.gives) in
    inl (record {
      settings_text = had.text;
      system_text = was.text;
      script_text = also.text;
      slots = None;
      settings_read = had.read;
      system_read = was_read (reads_system words had.text) system system_limit was.text a_system was.read;
      script_read = was_read (reads_script words had.text was.text) script script_limit also.text a_script also.read;
      slots_read = uncalled (reads_slots words had.text was.text also.text) disk None no_slots not_called;
      gives =
          ap (λ (k : Result Script Refusal). inputs_of (Ok set) (Ok rows) k (slots_value None)) also.gives
          ∙ ap (λ (y : Result (List Row) Refusal). inputs_of (Ok set) y (script_value also.text) (slots_value None)) was.gives
          ∙ ap (λ (s : Result Settings Refusal). inputs_of s (system_value was.text) (script_value also.text) (slots_value None)) had.gives
          ∙ sym (cond-true _ _ _ e);
    })) keys) reads) sets

-- then what the slots recover to, or their refusal
pub opens_slots : (words : List (List ℕ)) (settings system script : Watched) (disk : Kept) (set : Settings) (rows : List Row) (said : Script)
    (found : Result Found Refusal) → is_run_command words ≡ true
    → SetsOrNoMemory (names_settings words) settings (Ok set) → ReadsOrNoMemory system_rows system_limit system (Ok rows)
    → ReadsOrNoMemory (λ text. or_refusal WrongScript (script_of text)) script_limit script (Ok said) → FindsOrNoMemory disk found
    → IsOpening words settings system script disk (inputs_of (Ok set) (Ok rows) (Ok said) found)
unfolding opening
opens_slots words settings system script disk set rows said found e sets reads keys finds =
    ⊎_elim (λ none. absurd (cc none))
    (λ (had : Sets (names_settings words) settings (Ok set)).
    ⊎_elim (λ none. absurd (cc none))
    (λ (was : Reads system_rows system_limit system (Ok rows)).
    ⊎_elim (λ none. absurd (cc none))
    (λ (also : Reads (λ text. or_refusal WrongScript (script_of text)) script_limit script (Ok said)).
    ⊎_elim (λ none. inr (record { command = e; refused = ap (inputs_of (Ok set) (Ok rows) (Ok said)) none }))
    (λ (last : Finds disk found).
    let a_system : reads_system words had.text ≡ true =
    both (is_run_command words) (is_ok (settings_value (names_settings words) had.text)) true e (is_value _ set had.gives) in
    let a_script : reads_script words had.text was.text ≡ true =
    both (reads_system words had.text) (is_ok (system_value was.text)) true a_system (is_value _ rows was.gives) in
    let slots : reads_slots words had.text was.text also.text ≡ true =
    both (reads_script words had.text was.text) (is_ok (script_value also.text)) true a_script (is_value _ said also.gives) in
    inl (record {
      settings_text = had.text;
      system_text = was.text;
      script_text = also.text;
      slots = last.slots;
      settings_read = had.read;
      system_read = was_read (reads_system words had.text) system system_limit was.text a_system was.read;
      script_read = was_read (reads_script words had.text was.text) script script_limit also.text a_script also.read;
      slots_read = called (reads_slots words had.text was.text also.text) disk last.slots slots last.read;
      gives =
          ap (inputs_of (Ok set) (Ok rows) (Ok said)) last.gives
          ∙ ap (λ (k : Result Script Refusal). inputs_of (Ok set) (Ok rows) k (slots_value last.slots)) also.gives
          ∙ ap (λ (y : Result (List Row) Refusal). inputs_of (Ok set) y (script_value also.text) (slots_value last.slots)) was.gives
          ∙ ap (λ (s : Result Settings Refusal). inputs_of s (system_value was.text) (script_value also.text) (slots_value last.slots)) had.gives
          ∙ sym (cond-true _ _ _ e);
    })) finds) keys) reads) sets

-- what was not asked is as it was
pub unread_same : (left : Option (List ℕ)) (faults : ℕ) → IsUnread (watched left left faults faults)
unread_same left faults = record { left = refl; faults = refl }

unwritten_same : (disk : DiskState) → IsUnwritten disk disk
unwritten_same disk = record {
  later = record { not_before = omega arith; earlier = λ under moment slot list low. (λ h. h, λ h. h) };
  reads = λ slot. refl;
  outcomes = λ slot list. (λ h. h, λ h. h);
  between = λ under moment slot list low high. absurd (omega arith);
}

pub uncalled_same : (told : Bool) (disk : DiskState) (faults : ℕ) → IsUncalled (kept told disk disk faults faults)
uncalled_same told disk faults = record { moment = λ _. refl; unwritten = λ _. unwritten_same disk; faults = refl }
