-- Runs over sources and a disk that tell their content and that don't fail.
use Rattle.std.specs.Prelude.{◌≡◌, ◌⊎◌, ℕ, ◌+◌, ◌-◌, ◌^◌, ◌≤◌, Bool, true, false, List, [], ◌∷◌, All, Contains, IsTrue, is_some, take, Option, Some, None, Result, Ok, Err, cond, is_ok}
use Rattle.std.proofs.Common.{refl, ap, sym, subst, inl, inr, ◌∙◌, ⊎_elim, arith}
use Rattle.std.proofs.lemmas.Bool.{cond-false}
use Rattle.std.proofs.lemmas.List.Elements.{All-nil}
use Rattle.chew_spec_outside.specs.Faults.{Rose}
use Rattle.chew_spec_syllable.specs.Row.{Row}
use Rattle.chew_spec_text.specs.DictionaryText.{system_limit}
use Rattle.chew_spec_text.specs.Script.{Script, script_limit}
use Rattle.chew_spec_editor.specs.Settings.{Settings}
use Rattle.chew_spec_settings.specs.SettingsText.{settings_limit}
use Rattle.chew_spec_rounds.specs.Round.{NoMemory as Wanting, Round, saved_number}
use Rattle.chew_spec_program.specs.Command.{asks_trace, is_run_command, names_settings}
use Rattle.chew_spec_program.specs.Opening.{Found, Inputs, IsOpening, Opens, WantedMemory, inputs_of, opening, reads_script, reads_system, script_value, settings_value, slots_value, system_value}
use Rattle.chew_spec_program.specs.Reading.{IsCalm, IsRead, Watched}
use Rattle.chew_spec_program.specs.Refusal.{NoMemory, Refusal, WrongWords, refusal_status}
use Rattle.chew_spec_program.specs.Run.{Ended, IsRun, Outside}
use Rattle.chew_spec_program.specs.Slots.{AreRead, Kept, Slots, slots_of}
use Rattle.chew_spec_program.proofs.Readings.{told-front}
use Rattle.chew_spec_program.proofs.ReadOrder.{both-true}
use Rattle.chew_spec_program.proofs.Runs.{Ends, done-apart, refused-status, status-refused}
use Rattle.chew_spec_program.proofs.Opened.{opened-stands}
use Rattle.chew_spec_program.proofs.Sessions.{done-calm, done-room, saved-or-wanting}

-- a disk that tells its content and doesn't fail
pub record IsQuiet (disk : Kept) : Type 0 where
  pub told : disk.told ≡ true
  pub calm : Rose disk.faults_before disk.faults_now → ⊥

told-text : (source : Watched) (limit : ℕ) (left : List ℕ) (text : Option (List ℕ)) → IsCalm source left → IsRead source limit text → text ≡ Some (take (limit + 1) left)
told-text source limit left None is read = absurd (is.calm (read.failed refl))
told-text source limit left (Some text) is read = ap Some (told-front source limit left text is.told read)

told-slots : (disk : Kept) (slots : Option Slots) → IsQuiet disk → AreRead disk slots → slots ≡ Some (slots_of disk.before)
told-slots disk None is read = absurd (is.calm (read.failed refl))
told-slots disk (Some slots) is read = ap Some (read.told is.told)

-- inputs that agree as far as none is refused
agree : (a a' : Result Settings Refusal) (b b' : Result (List Row) Refusal) (s s' : Result Script Refusal) (d d' : Result Found Refusal) → a ≡ a' → (is_ok a ≡ true → b ≡ b')
    → (is_ok a ≡ true → is_ok b ≡ true → s ≡ s') → (is_ok a ≡ true → is_ok b ≡ true → is_ok s ≡ true → d ≡ d') → inputs_of a b s d ≡ inputs_of a' b' s' d'
agree (Err r) a' b b' s s' d d' e f g h = ap (λ x. inputs_of x b' s' d') e
agree (Ok set) a' (Err r) b' s s' d d' e f g h = ap (λ x. inputs_of (Ok set) x s' d') (f refl) ∙ ap (λ x. inputs_of x b' s' d') e
agree (Ok set) a' (Ok rows) b' (Err r) s' d d' e f g h =
    ap (λ x. inputs_of (Ok set) (Ok rows) x d') (g refl refl) ∙ ap (λ x. inputs_of (Ok set) x s' d') (f refl) ∙ ap (λ x. inputs_of x b' s' d') e
agree (Ok set) a' (Ok rows) b' (Ok said) s' d d' e f g h =
    ap (λ x. inputs_of (Ok set) (Ok rows) (Ok said) x) (h refl refl refl)
    ∙ ap (λ x. inputs_of (Ok set) (Ok rows) x d') (g refl refl) ∙ ap (λ x. inputs_of (Ok set) x s' d') (f refl) ∙ ap (λ x. inputs_of x b' s' d') e

-- what such sources and such a disk give
abbrev pub told_opening : List (List ℕ) → (set left keys : List ℕ) → Kept → Result Inputs Refusal
told_opening words set left keys disk =
    opening words (Some (take (settings_limit + 1) set)) (Some (take (system_limit + 1) left)) (Some (take (script_limit + 1) keys)) (Some (slots_of disk.before))

module _ (words : List (List ℕ)) (settings system script : Watched) (disk : Kept) (set left keys : List ℕ) (opened : Result Inputs Refusal)
    (zeroth : IsCalm settings set) (first : IsCalm system left) (second : IsCalm script keys) (third : IsQuiet disk) where
  -- the settings are those of the text, also where they are not read, since then they are the standard ones
  settings-told : (opens : Opens words settings system script disk opened)
      → settings_value (names_settings words) opens.settings_text ≡ settings_value (names_settings words) (Some (take (settings_limit + 1) set))
  settings-told opens = by (names_settings words) refl
    where
      by : (named : Bool) → names_settings words ≡ named
          → settings_value (names_settings words) opens.settings_text ≡ settings_value (names_settings words) (Some (take (settings_limit + 1) set))
      by true e = ap (settings_value (names_settings words)) (told-text settings settings_limit set opens.settings_text zeroth (opens.settings_read.read e))
      by false e = cond-false _ _ _ e ∙ sym (cond-false _ _ _ e)

  inputs-told : (opens : Opens words settings system script disk opened) → is_run_command words ≡ true
      → inputs_of (settings_value (names_settings words) opens.settings_text) (system_value opens.system_text) (script_value opens.script_text) (slots_value opens.slots)
      ≡ inputs_of (settings_value (names_settings words) (Some (take (settings_limit + 1) set))) (system_value (Some (take (system_limit + 1) left)))
      (script_value (Some (take (script_limit + 1) keys))) (slots_value (Some (slots_of disk.before)))
  inputs-told opens e =
      agree _ _ _ _ _ _ _ _ (settings-told opens)
      (λ ok. ap system_value (told-text system system_limit left opens.system_text first (opens.system_read.read (at-system ok))))
      (λ ok fine. ap script_value (told-text script script_limit keys opens.script_text second (opens.script_read.read (at-script ok fine))))
      (λ ok fine said. ap slots_value (told-slots disk opens.slots third
      (opens.slots_read.read (both-true (reads_script words opens.settings_text opens.system_text) (is_ok (script_value opens.script_text)) (at-script ok fine) said))))
    where
      at-system : is_ok (settings_value (names_settings words) opens.settings_text) ≡ true → reads_system words opens.settings_text ≡ true
      at-system ok = both-true (is_run_command words) (is_ok (settings_value (names_settings words) opens.settings_text)) e ok

      at-script : is_ok (settings_value (names_settings words) opens.settings_text) ≡ true → is_ok (system_value opens.system_text) ≡ true → reads_script words opens.settings_text opens.system_text ≡ true
      at-script ok fine = both-true (reads_system words opens.settings_text) (is_ok (system_value opens.system_text)) (at-system ok) fine

  opens-told : Opens words settings system script disk opened → opened ≡ told_opening words set left keys disk
  unfolding opening
  opens-told opens = by (is_run_command words) refl
    where
      by : (b : Bool) → is_run_command words ≡ b → opened ≡ told_opening words set left keys disk
      by true e = opens.gives ∙ ap (λ (o : Result Inputs Refusal). cond (is_run_command words) o (Err WrongWords)) (inputs-told opens e)
      by false e = opens.gives ∙ cond-false _ _ _ e ∙ sym (cond-false _ _ _ e)

  pub opened-told : IsOpening words settings system script disk opened → (opened ≡ Err NoMemory) ⊎ (opened ≡ told_opening words set left keys disk)
  opened-told is =
      ⊎_elim (λ (opens : Opens words settings system script disk opened). inr (opens-told opens))
      (λ (wanted : WantedMemory words opened). inl wanted.refused) is

pub run-refused : (words : List (List ℕ)) (outside : Outside) (ended : Ended) (set left keys : List ℕ) (refusal : Refusal) → IsRun words outside ended
    → IsCalm outside.settings set → IsCalm outside.system left → IsCalm outside.script keys → IsQuiet outside.disk
    → told_opening words set left keys outside.disk ≡ Err refusal → (ended.status ≡ 10) ⊎ (ended.status ≡ refusal_status refusal)
run-refused words outside ended set left keys refusal run zeroth first second third e =
    ⊎_elim (λ none. inl (status-refused words outside ended run.opened NoMemory run.ends none))
    (λ told. inr (status-refused words outside ended run.opened refusal run.ends (told ∙ e)))
    (opened-told words outside.settings outside.system outside.script outside.disk set left keys run.opened zeroth first second third run.opening)

-- the status of a run that was opened
opened-calm : (words : List (List ℕ)) (outside : Outside) (ended : Ended) (opened : Result Inputs Refusal) (inputs : Inputs) → Ends words outside ended opened → opened ≡ Ok inputs
    → IsQuiet outside.disk → (Rose outside.sink.faults_before outside.sink.faults_now → ⊥) → Contains (0 ∷ (10 ∷ (11 ∷ []))) ended.status
opened-calm words outside ended (Err refusal) inputs refused e quiet calm = absurd (cc e)
opened-calm words outside ended (Ok others) inputs done e quiet calm = done-calm others (asks_trace words) outside.sink outside.disk ended done quiet.calm calm

pub run-complete : (words : List (List ℕ)) (outside : Outside) (ended : Ended) (set left keys : List ℕ) (inputs : Inputs) → IsRun words outside ended
    → IsCalm outside.settings set → IsCalm outside.system left → IsCalm outside.script keys → IsQuiet outside.disk → (Rose outside.sink.faults_before outside.sink.faults_now → ⊥)
    → told_opening words set left keys outside.disk ≡ Ok inputs → Contains (0 ∷ (10 ∷ (11 ∷ []))) ended.status
run-complete words outside ended set left keys inputs run zeroth first second third calm e =
    ⊎_elim (λ none. let ten : ended.status ≡ 10 = status-refused words outside ended run.opened NoMemory run.ends none in subst (Contains (0 ∷ (10 ∷ (11 ∷ [])))) (sym ten) (1, omega arith, refl))
    (λ told. opened-calm words outside ended run.opened inputs run.ends (told ∙ e) third calm)
    (opened-told words outside.settings outside.system outside.script outside.disk set left keys run.opened zeroth first second third run.opening)

-- a refusal for what the inputs or the slots hold
refused-by : (words : List (List ℕ)) (outside : Outside) (ended : Ended) (opened wanted : Result Inputs Refusal) → Ends words outside ended opened → (opened ≡ Err NoMemory) ⊎ (opened ≡ wanted)
    → 3 ≤ ended.status → ended.status ≤ 6 → (refusal : Refusal) × (refusal_status refusal ≡ ended.status) × (wanted ≡ Err refusal)
refused-by words outside ended (Ok inputs) wanted done told low high =
    absurd (done-apart words outside ended inputs ended.status (omega arith) (omega arith) done refl)
refused-by words outside ended (Err refusal) wanted refused told low high =
    let status = refused-status refusal outside.sink ended refused.0 in
    ⊎_elim
    (λ none. let same : refusal ≡ NoMemory = cc none in let ten : refusal_status refusal ≡ 10 = ap refusal_status same in absurd (omega arith))
    (λ same. (refusal, sym status, sym same)) told

pub run-refusal : (words : List (List ℕ)) (outside : Outside) (ended : Ended) (set left keys : List ℕ) → IsRun words outside ended
    → IsCalm outside.settings set → IsCalm outside.system left → IsCalm outside.script keys → IsQuiet outside.disk → 3 ≤ ended.status → ended.status ≤ 6
    → (refusal : Refusal) × (refusal_status refusal ≡ ended.status) × (told_opening words set left keys outside.disk ≡ Err refusal)
run-refusal words outside ended set left keys run zeroth first second third low high =
    refused-by words outside ended run.opened (told_opening words set left keys outside.disk) run.ends
    (opened-told words outside.settings outside.system outside.script outside.disk set left keys run.opened zeroth first second third run.opening) low high

-- where the number that was recovered leaves room
abbrev RoomEnds : Ended → Type 0
RoomEnds ended = Contains (0 ∷ (10 ∷ [])) ended.status × All (λ (r : Round). IsTrue (is_some (saved_number r)) ⊎ (r ≡ Wanting)) ended.rounds

opened-room : (words : List (List ℕ)) (outside : Outside) (ended : Ended) (opened : Result Inputs Refusal) (inputs : Inputs)
    → IsOpening words outside.settings outside.system outside.script outside.disk opened → Ends words outside ended opened → opened ≡ Ok inputs
    → IsQuiet outside.disk → (Rose outside.sink.faults_before outside.sink.faults_now → ⊥) → inputs.seq ≤ 2 ^ 64 - 67 → RoomEnds ended
opened-room words outside ended (Err refusal) inputs opening refused e quiet calm room = absurd (cc e)
opened-room words outside ended (Ok others) inputs opening done e quiet calm room =
    let same : others ≡ inputs = cc e in
    let few = (opened-stands words outside.settings outside.system outside.script outside.disk others opening).script.rounds in
    let enough : others.seq ≤ 2 ^ 64 - 67 = subst (λ (i : Inputs). i.seq ≤ 2 ^ 64 - 67) (sym same) room in (
      done-room others (asks_trace words) outside.sink outside.disk ended done few enough quiet.calm calm,
      saved-or-wanting others (asks_trace words) outside.sink outside.disk ended done few enough quiet.calm,
    )

-- a run for which memory was wanting before its first key
wanting-ends : (words : List (List ℕ)) (outside : Outside) (ended : Ended) (opened : Result Inputs Refusal) → Ends words outside ended opened → opened ≡ Err NoMemory → RoomEnds ended
wanting-ends words outside ended (Ok inputs) done e = absurd (cc e)
wanting-ends words outside ended (Err refusal) refused e =
    let same : refusal ≡ NoMemory = cc e in
    let ten : ended.status ≡ 10 = refused-status refusal outside.sink ended refused.0 ∙ ap refusal_status same in (
      subst (Contains (0 ∷ (10 ∷ []))) (sym ten) (1, omega arith, refl),
      subst (λ (d : Ended). All (λ (r : Round). IsTrue (is_some (saved_number r)) ⊎ (r ≡ Wanting)) d.rounds) (sym refused.0.ends)
          (All-nil (λ (r : Round). IsTrue (is_some (saved_number r)) ⊎ (r ≡ Wanting))),
    )

pub run-room : (words : List (List ℕ)) (outside : Outside) (ended : Ended) (set left keys : List ℕ) (inputs : Inputs) → IsRun words outside ended
    → IsCalm outside.settings set → IsCalm outside.system left → IsCalm outside.script keys → IsQuiet outside.disk → (Rose outside.sink.faults_before outside.sink.faults_now → ⊥)
    → told_opening words set left keys outside.disk ≡ Ok inputs → inputs.seq ≤ 2 ^ 64 - 67
    → Contains (0 ∷ (10 ∷ [])) ended.status × All (λ (r : Round). IsTrue (is_some (saved_number r)) ⊎ (r ≡ Wanting)) ended.rounds
run-room words outside ended set left keys inputs run zeroth first second third calm e room =
    ⊎_elim (λ none. wanting-ends words outside ended run.opened run.ends none)
    (λ told. opened-room words outside ended run.opened inputs run.opening run.ends (told ∙ e) third calm room)
    (opened-told words outside.settings outside.system outside.script outside.disk set left keys run.opened zeroth first second third run.opening)
