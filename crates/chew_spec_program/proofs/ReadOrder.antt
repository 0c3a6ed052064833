-- The order in which the inputs of a run are read.
use Rattle.std.specs.Prelude.{◌≡◌, ℕ, Bool, true, false, ◌&&◌, List, Option, Some, None, IfSome, IsNone, Result, Ok, is_ok}
use Rattle.std.proofs.Common.{refl, ap, sym, subst, inl, ◌∙◌, ⊎_elim, true≢false}
use Rattle.chew_spec_disk.specs.Disk.{DiskState}
use Rattle.chew_spec_text.specs.DictionaryText.{system_limit}
use Rattle.chew_spec_text.specs.Script.{script_limit}
use Rattle.chew_spec_program.specs.Command.{Command, Run, Build, Check, Dump, Make, command_of, has_settings, is_run, is_run_command, names_settings}
use Rattle.chew_spec_program.specs.Opening.{Found, Inputs, IsOpening, Opens, WantedMemory, reads_script, reads_slots, reads_system, script_value, settings_value, slots_value, system_value}
use Rattle.chew_spec_program.specs.Reading.{IsRead, IsUnread, Watched}
use Rattle.chew_spec_program.specs.Refusal.{Refusal}
use Rattle.chew_spec_program.specs.Slots.{AreRead, IsUncalled, Kept, Slots, slots_of}
use Rattle.chew_spec_program.proofs.Opened.{IsOpened, opening-parts, was-opened}

second-false : (a b : Bool) → b ≡ false → (a && b) ≡ false
second-false true b e = e
second-false false b e = refl

first-false : (a b : Bool) → a ≡ false → (a && b) ≡ false
first-false true b e = absurd (true≢false e)
first-false false b e = refl

pub both-true : (a b : Bool) → a ≡ true → b ≡ true → (a && b) ≡ true
both-true true b e f = f
both-true false b e f = absurd (true≢false (sym e))

-- words that name settings are those of a run
run-named : (command : Option Command) → is_run command ≡ false → has_settings command ≡ false
run-named None e = refl
run-named (Some (Run trace system script folder None)) e = refl
run-named (Some (Run trace system script folder (Some place))) e = absurd (true≢false e)
run-named (Some (Build from to)) e = refl
run-named (Some (Check from)) e = refl
run-named (Some (Dump from)) e = refl
run-named (Some (Make number)) e = refl

module _ (words : List (List ℕ)) (settings system script : Watched) (disk : Kept) (opened : Result Inputs Refusal) (opens : Opens words settings system script disk opened) where
  -- where the system is not read, nothing behind it is
  behind-system : reads_system words opens.settings_text ≡ false → IsUnread system × IsUnread script × IsUncalled disk
  behind-system e =
      let none = first-false (reads_system words opens.settings_text) (is_ok (system_value opens.system_text)) e in (
        opens.system_read.unread e,
        opens.script_read.unread none,
        opens.slots_read.unread (first-false (reads_script words opens.settings_text opens.system_text) (is_ok (script_value opens.script_text)) none),
      )

  pub system-unread : is_ok (settings_value (names_settings words) opens.settings_text) ≡ false → IsUnread system × IsUnread script × IsUncalled disk
  system-unread e = behind-system (second-false (is_run_command words) (is_ok (settings_value (names_settings words) opens.settings_text)) e)

  pub script-unread : is_ok (system_value opens.system_text) ≡ false → IsUnread script × IsUncalled disk
  script-unread e =
      let none = second-false (reads_system words opens.settings_text) (is_ok (system_value opens.system_text)) e in (
        opens.script_read.unread none,
        opens.slots_read.unread (first-false (reads_script words opens.settings_text opens.system_text) (is_ok (script_value opens.script_text)) none),
      )

  pub disk-uncalled : is_ok (script_value opens.script_text) ≡ false → IsUncalled disk
  disk-uncalled e = opens.slots_read.unread (second-false (reads_script words opens.settings_text opens.system_text) (is_ok (script_value opens.script_text)) e)

  wrong-unread : is_run_command words ≡ false → IsUnread settings × IsUnread system × IsUnread script × IsUncalled disk
  wrong-unread e =
      let rest = behind-system (first-false (is_run_command words) (is_ok (settings_value (names_settings words) opens.settings_text)) e) in
      (opens.settings_read.unread (run-named (command_of words) e), rest.0, rest.1, rest.2)

pub nothing-read : (words : List (List ℕ)) (settings system script : Watched) (disk : Kept) (opened : Result Inputs Refusal) → IsOpening words settings system script disk opened
    → is_run_command words ≡ false → IsUnread settings × IsUnread system × IsUnread script × IsUncalled disk
nothing-read words settings system script disk opened is e =
    ⊎_elim (λ (opens : Opens words settings system script disk opened). wrong-unread words settings system script disk opened opens e)
    (λ (wanted : WantedMemory words opened). absurd (true≢false (sym wanted.command ∙ e))) is

-- what a run has read that is opened
pub record ReadsAll (words : List (List ℕ)) (settings system script : Watched) (disk : Kept) (inputs : Inputs) (opens : Opens words settings system script disk (Ok inputs)) : Type 0 where
  pub system_read : IsRead system system_limit opens.system_text
  pub script_read : IsRead script script_limit opens.script_text
  pub slots_read : AreRead disk opens.slots

pub all-read : (words : List (List ℕ)) (settings system script : Watched) (disk : Kept) (inputs : Inputs) (opens : Opens words settings system script disk (Ok inputs))
    → ReadsAll words settings system script disk inputs opens
all-read words settings system script disk inputs opens =
    let o = opening-parts words opens.settings_text opens.system_text opens.script_text opens.slots inputs (sym opens.gives) in
    let s = both-true (is_run_command words) (is_ok (settings_value (names_settings words) opens.settings_text)) o.command (ap is_ok o.parts.is_set) in
    let t = both-true (reads_system words opens.settings_text) (is_ok (system_value opens.system_text)) s (ap is_ok o.parts.is_system) in
    record {
      system_read = opens.system_read.read s;
      script_read = opens.script_read.read t;
      slots_read = opens.slots_read.read (both-true (reads_script words opens.settings_text opens.system_text) (is_ok (script_value opens.script_text)) t (ap is_ok o.parts.is_said));
    }

-- the slots that were read are the same over a longer stretch
pub opening-stays : (words : List (List ℕ)) (settings system script : Watched) (disk later : Kept) (inputs : Inputs) → later.told ≡ disk.told → later.before ≡ disk.before
    → IsOpening words settings system script disk (Ok inputs) → IsOpening words settings system script later (Ok inputs)
opening-stays words settings system script disk later inputs told before is =
    let opens = was-opened words settings system script disk inputs is in
    let o = opening-parts words opens.settings_text opens.system_text opens.script_text opens.slots inputs (sym opens.gives) in
    let read = (all-read words settings system script disk inputs opens).slots_read in
    inl (record {
      settings_text = opens.settings_text;
      system_text = opens.system_text;
      script_text = opens.script_text;
      slots = opens.slots;
      settings_read = opens.settings_read;
      system_read = opens.system_read;
      script_read = opens.script_read;
      slots_read = record {
        read = λ _. record {
          told = λ tells. subst (λ (d : DiskState). IfSome opens.slots (λ r. r ≡ slots_of d)) (sym before) (read.told (sym told ∙ tells));
          failed = λ none. absurd (no-slots opens.slots none o.parts.kept o.parts.is_kept);
        };
        unread = λ e. absurd (true≢false (sym (slots-read opens o) ∙ e));
      };
      gives = opens.gives;
    })
  where
    no-slots : (slots : Option Slots) → IsNone slots → (found : Found) → slots_value slots ≡ Ok found → ⊥
    no-slots None none found e = cc e
    no-slots (Some slots) none found e = cc none

    slots-read : (opens : Opens words settings system script disk (Ok inputs)) → IsOpened words opens.settings_text opens.system_text opens.script_text opens.slots inputs
        → reads_slots words opens.settings_text opens.system_text opens.script_text ≡ true
    slots-read opens o =
        let s = both-true (is_run_command words) (is_ok (settings_value (names_settings words) opens.settings_text)) o.command (ap is_ok o.parts.is_set) in
        let t = both-true (reads_system words opens.settings_text) (is_ok (system_value opens.system_text)) s (ap is_ok o.parts.is_system) in
        both-true (reads_script words opens.settings_text opens.system_text) (is_ok (script_value opens.script_text)) t (ap is_ok o.parts.is_said)
