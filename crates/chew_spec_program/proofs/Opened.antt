-- What the inputs of a run stand on.
use Rattle.std.specs.Prelude.{◌≡◌, ℕ, Bool, true, false, ◌&&◌, List, Option, Some, None, Result, Ok, Err, cond, length, nat_eq, nat_le, ◌==◌}
use Rattle.std.specs.List.{list_all, starts_with}
use Rattle.std.proofs.Common.{refl, ap, sym, subst, ◌∙◌, ⊎_elim}
use Rattle.std.proofs.lemmas.Bool.{and_parts}
use Rattle.std.proofs.lemmas.List.Sums.{AllPass-from_list_all, list_all-from_AllPass}
use Rattle.chew_spec_preedit.proofs.Kept.{list_all-weaker}
use Rattle.std.proofs.lemmas.List.Sorted.{All-permutation}
use Rattle.chew_spec_syllable.specs.Row.{Row, image_cmp, is_row}
use Rattle.chew_spec_dictionary.specs.History.{start_of}
use Rattle.chew_spec_dictionary.specs.Order.{in_order}
use Rattle.chew_spec_dictionary.proofs.Order.{order_permutes}
use Rattle.chew_spec_text.specs.DictionaryText.{RowCause, Size, dictionary_rows, system_limit}
use Rattle.chew_spec_text.specs.Lines.{Fault, lines_of}
use Rattle.chew_spec_text.proofs.Rows.{rows_proper}
use Rattle.chew_spec_text.specs.Script.{Script, script_of}
use Rattle.chew_spec_text.proofs.Script as scripts
use Rattle.chew_spec_text.proofs.ScriptLines.{Bounded}
use Rattle.chew_spec_image.specs.Fields.{magic}
use Rattle.chew_spec_image.specs.Reading.{image_reading}
use Rattle.chew_spec_editor.specs.Invariant.{is_settings}
use Rattle.chew_spec_editor.specs.Settings.{Settings, standard_settings}
use Rattle.chew_spec_settings.specs.SettingsText.{settings_of}
use Rattle.chew_spec_settings.proofs.WithinRanges.{in_range}
use Rattle.chew_spec_slots.specs.Keep.{found_keep}
use Rattle.chew_spec_slots.specs.Recovery.{Damaged, Recovered, Recovery, TooLarge, recovered}
use Rattle.chew_spec_program.specs.Command.{is_run_command, names_settings}
use Rattle.chew_spec_program.specs.ImageRows.{rows_of_image, rows_or_refusal}
use Rattle.chew_spec_program.specs.Opening.{Found, Inputs, IsOpening, Opens, WantedMemory, found_or_refusal, inputs_of, inputs_with, opening, or_refusal, ordered, script_value, settings_value, slots_value, system_value}
use Rattle.chew_spec_program.specs.Reading.{Watched}
use Rattle.chew_spec_program.specs.Refusal.{Refusal, WrongScript, WrongSettings, WrongSystem, WrongWords}
use Rattle.chew_spec_program.specs.Slots.{Kept, Slots}
use Rattle.chew_spec_program.proofs.ImageRows.{AreFewRows, image-rows, recovered-rows}

-- what a run that is opened stands on, and its script
pub record StandsWhole (inputs : Inputs) : Type 0 where
  pub rows : list_all is_row inputs.basis.system ≡ true
  pub settings : is_settings inputs.basis.settings ≡ true
  pub pairs : AreFewRows inputs.basis.start.dictionary.pairs
  pub begins : inputs.basis.start ≡ start_of inputs.basis.start.dictionary
  pub script : Bounded inputs.script

-- rows of a text are rows, in image order too
are-rows : (rows : List Row) → list_all (λ row. is_row row && (row.time == 0)) rows ≡ true → list_all is_row rows ≡ true
are-rows rows e = list_all-weaker (λ (row : Row). is_row row && (row.time == 0)) is_row (λ row both. (and_parts (is_row row) (row.time == 0) both).0) rows e

ordered-rows : (rows : List Row) → list_all is_row rows ≡ true → list_all is_row (in_order image_cmp rows) ≡ true
ordered-rows rows e =
    list_all-from_AllPass is_row (in_order image_cmp rows)
    (All-permutation (λ row. is_row row ≡ true) rows (in_order image_cmp rows) (order_permutes image_cmp rows) (AllPass-from_list_all is_row rows e))

-- a value that is not refused
not-refused : {X F : Type 0} (refusal : F → Refusal) (o : Result X F) (value : X) → or_refusal refusal o ≡ Ok value → o ≡ Ok value
not-refused refusal (Ok had) value e = let same : had ≡ value = cc in ap Ok same
not-refused refusal (Err fault) value e = absurd (cc e)

text-rows : (bytes : List ℕ) (rows : List Row) → ordered (dictionary_rows bytes) ≡ Ok rows → list_all is_row rows ≡ true
text-rows bytes rows e = by (dictionary_rows bytes) refl e
  where
    by : (o : Result (List Row) (Fault RowCause)) → dictionary_rows bytes ≡ o → ordered o ≡ Ok rows → list_all is_row rows ≡ true
    by (Ok had) is same =
        let this : in_order image_cmp had ≡ rows = cc same in
        subst (λ (l : List Row). list_all is_row l ≡ true) this (ordered-rows had (are-rows had (rows_proper bytes had is).all))
    by (Err fault) is same = absurd (cc same)

rows-of-image : (bytes : List ℕ) (rows : List Row) → rows_of_image bytes ≡ Ok rows → list_all is_row rows ≡ true
rows-of-image bytes rows e = by (nat_le (length bytes) system_limit) (image_reading bytes) refl e
  where
    by : (b : Bool) (o : Result (List Row) ℕ) → image_reading bytes ≡ o → cond b (rows_or_refusal o) (Err (WrongSystem (record { line = 0; cause = Size }))) ≡ Ok rows → list_all is_row rows ≡ true
    by true (Ok had) is same = let this : had ≡ rows = cc same in image-rows bytes rows (is ∙ ap Ok this)
    by true (Err place) is same = absurd (cc same)
    by false o is same = absurd (cc same)

value-rows : (text : Option (List ℕ)) (rows : List Row) → system_value text ≡ Ok rows → list_all is_row rows ≡ true
value-rows None rows e = absurd (cc e)
value-rows (Some bytes) rows e = by (starts_with nat_eq bytes magic) e
  where
    by : (b : Bool) → cond b (rows_of_image bytes) (ordered (dictionary_rows bytes)) ≡ Ok rows → list_all is_row rows ≡ true
    by true same = rows-of-image bytes rows same
    by false same = text-rows bytes rows same

value-script : (text : Option (List ℕ)) (said : Script) → script_value text ≡ Ok said → Bounded said
value-script None said e = absurd (cc e)
value-script (Some text) said e = scripts.bounded 1 said (lines_of text) (scripts.made_by_lines text said (not-refused WrongScript (script_of text) said e))

value-settings : (named : Bool) (text : Option (List ℕ)) (settings : Settings) → settings_value named text ≡ Ok settings → is_settings settings ≡ true
value-settings true None settings e = absurd (cc e)
value-settings true (Some text) settings e = in_range text settings (not-refused WrongSettings (settings_of text) settings e)
value-settings false text settings e = let same : standard_settings ≡ settings = cc in subst (λ (s : Settings). is_settings s ≡ true) same refl

-- what was recovered where no slot was refused
pub found-recovered : (seq : ℕ) (recovery : Recovery) (found : Found) → found_or_refusal seq recovery ≡ Ok found → recovery ≡ Recovered found.checkpoint
found-recovered seq (Recovered checkpoint) found e = let same : record { checkpoint = checkpoint; seq = seq } ≡ found = cc e in ap (λ (f : Found). Recovered f.checkpoint) same
found-recovered seq (TooLarge slot len) found e = absurd (cc e)
found-recovered seq (Damaged slot place) found e = absurd (cc e)

value-pairs : (slots : Option Slots) (found : Found) → slots_value slots ≡ Ok found → AreFewRows found.checkpoint.rows
value-pairs None found e = absurd (cc e)
value-pairs (Some slots) found e =
    recovered-rows slots.zero slots.one found.checkpoint (found-recovered (found_keep slots.zero slots.one).seq (recovered slots.zero slots.one) found e)

-- the parts of inputs
pub record HasParts (settings : Result Settings Refusal) (rows : Result (List Row) Refusal) (script : Result Script Refusal) (found : Result Found Refusal) (inputs : Inputs) : Type 0 where
  pub set : Settings
  pub system : List Row
  pub said : Script
  pub kept : Found
  pub is_set : settings ≡ Ok set
  pub is_system : rows ≡ Ok system
  pub is_said : script ≡ Ok said
  pub is_kept : found ≡ Ok kept
  pub is : inputs_with set system said kept ≡ inputs

parts : (settings : Result Settings Refusal) (rows : Result (List Row) Refusal) (script : Result Script Refusal) (found : Result Found Refusal) (inputs : Inputs)
    → inputs_of settings rows script found ≡ Ok inputs → HasParts settings rows script found inputs
parts (Err refusal) rows script found inputs e = absurd (cc e)
parts (Ok settings) (Err refusal) script found inputs e = absurd (cc e)
parts (Ok settings) (Ok rows) (Err refusal) found inputs e = absurd (cc e)
parts (Ok settings) (Ok rows) (Ok said) (Err refusal) inputs e = absurd (cc e)
parts (Ok settings) (Ok rows) (Ok said) (Ok found) inputs e = record {
  set = settings;
  system = rows;
  said = said;
  kept = found;
  is_set = refl;
  is_system = refl;
  is_said = refl;
  is_kept = refl;
  is = cc e;
}

-- the words of a run that is opened, and the parts of its inputs
pub record IsOpened (words : List (List ℕ)) (settings system script : Option (List ℕ)) (slots : Option Slots) (inputs : Inputs) : Type 0 where
  pub command : is_run_command words ≡ true
  pub parts : HasParts (settings_value (names_settings words) settings) (system_value system) (script_value script) (slots_value slots) inputs

pub opening-parts : (words : List (List ℕ)) (settings system script : Option (List ℕ)) (slots : Option Slots) (inputs : Inputs) → opening words settings system script slots ≡ Ok inputs
    → IsOpened words settings system script slots inputs
unfolding opening
opening-parts words settings system script slots inputs e = by (is_run_command words) refl e
  where
    by : (b : Bool) → is_run_command words ≡ b
        → cond b (inputs_of (settings_value (names_settings words) settings) (system_value system) (script_value script) (slots_value slots)) (Err WrongWords) ≡ Ok inputs
        → IsOpened words settings system script slots inputs
    by true is h = record {
      command = is;
      parts = parts (settings_value (names_settings words) settings) (system_value system) (script_value script) (slots_value slots) inputs h;
    }
    by false is h = absurd (cc h)

opening-stands : (words : List (List ℕ)) (settings system script : Option (List ℕ)) (slots : Option Slots) (inputs : Inputs) → opening words settings system script slots ≡ Ok inputs → StandsWhole inputs
opening-stands words settings system script slots inputs e =
    let p = (opening-parts words settings system script slots inputs e).parts in
    subst StandsWhole p.is (record {
      rows = value-rows system p.system p.is_system;
      settings = value-settings (names_settings words) settings p.set p.is_set;
      pairs = value-pairs slots p.kept p.is_kept;
      begins = refl;
      script = value-script script p.said p.is_said;
    })

-- what the opening gave, where memory was not wanting
pub was-opened : (words : List (List ℕ)) (settings system script : Watched) (disk : Kept) (inputs : Inputs) → IsOpening words settings system script disk (Ok inputs)
    → Opens words settings system script disk (Ok inputs)
was-opened words settings system script disk inputs is =
    ⊎_elim (λ (opens : Opens words settings system script disk (Ok inputs)). opens)
    (λ (wanted : WantedMemory words (Ok inputs)). absurd (cc (wanted.refused))) is

pub opened-stands : (words : List (List ℕ)) (settings system script : Watched) (disk : Kept) (inputs : Inputs) → IsOpening words settings system script disk (Ok inputs) → StandsWhole inputs
opened-stands words settings system script disk inputs is =
    let opens = was-opened words settings system script disk inputs is in
    opening-stands words opens.settings_text opens.system_text opens.script_text opens.slots inputs (sym opens.gives)

-- and its words are those of a run
pub opened-command : (words : List (List ℕ)) (settings system script : Watched) (disk : Kept) (inputs : Inputs) → IsOpening words settings system script disk (Ok inputs) → is_run_command words ≡ true
opened-command words settings system script disk inputs is =
    let opens = was-opened words settings system script disk inputs is in
    (opening-parts words opens.settings_text opens.system_text opens.script_text opens.slots inputs (sym opens.gives)).command
