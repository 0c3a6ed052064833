-- What a whole talk keeps.
use Rattle.std.specs.Prelude.{◌≡◌, ℕ, zero, suc, ◌+◌, ◌<◌, ◌≤◌, true, not, ◌&&◌, List, [], ◌∷◌, ◌++◌, Contains, drop, flat_map, length, slice_get, ◌==◌, nat_le, Option, Some, None}
use Rattle.std.specs.List.{list_all}
use Rattle.std.proofs.Common.{refl, ap, sym, subst, ◌∙◌, arith, length-append}
use Rattle.std.proofs.lemmas.Bool.{and_parts, leb-true}
use Rattle.std.proofs.lemmas.Option.{none-some, same_Some}
use Rattle.chew_spec_syllable.specs.Row.{Row, is_row}
use Rattle.chew_spec_dictionary.specs.Call.{Call, Reply}
use Rattle.chew_spec_phrasing.specs.CanSegment.{interval_of}
use Rattle.chew_spec_phrasing.specs.Usable.{Choice, choice_end, is_unbroken, phrase_len}
use Rattle.chew_spec_preedit.specs.Buffer.{are_apart, is_choice_of, is_choosable}
use Rattle.chew_spec_preedit.specs.PlacedRun.{PlacedRun, run_end, runs_of}
use Rattle.chew_spec_preedit.proofs.IsBuffer.{IsBuffer, IsBuffer-from, IsChoice-from}
use Rattle.chew_spec_preedit.proofs.Phrases.{phrase_len-some}
use Rattle.chew_spec_text.specs.KeyStroke.{KeyStroke, is_key_stroke}
use Rattle.chew_spec_editor.specs.Answers.{AreFoundBefore}
use Rattle.chew_spec_editor.specs.Editor.{Editor}
use Rattle.chew_spec_editor.specs.Invariant.{HasSingles, is_editor, run_places}
use Rattle.chew_spec_editor.specs.Talk.{Turn, talk_from, turn_of}
use Rattle.chew_spec_editor.proofs.Asked.{MayAsk, before-first, before-rest, passes-at, turn_of-may}
use Rattle.chew_spec_editor.proofs.BestPieces.{choice-within, middle}
use Rattle.chew_spec_editor.proofs.PlacedRuns.{IsAmong-placed, apart-end, are_placed, placed-runs_of}
use Rattle.chew_spec_editor.proofs.RunsAt.{HasRun-sound}
use Rattle.chew_spec_editor.proofs.ShownRows.{passes}
use Rattle.chew_spec_editor.proofs.SoundPlaces.{places-runs_of, sound_places}
use Rattle.chew_spec_editor.proofs.Steady.{IsEditor-from}
use Rattle.chew_spec_editor.proofs.Talks.{talk_behind, talk_with}

-- what each turn keeps, a talk keeps, where its look-ups are found
pub record Keeps (system : List Row) (P : Editor → Type 0) : Type 0 where
  pub turn : (editor : Editor) (key : KeyStroke) (replies : List Reply) (turn : Turn) → is_key_stroke key ≡ true → P editor
      → AreFoundBefore (length turn.calls) turn.calls replies → turn_of system editor key replies ≡ Some turn → P turn.editor

-- the look-ups of a talk are found
abbrev pub AllFound : List Call → List Reply → Type 0
AllFound calls replies = AreFoundBefore (length calls) calls replies

talk-step : (system : List Row) (P : Editor → Type 0) (editor : Editor) (key : KeyStroke) (keys : List KeyStroke) (replies : List Reply) (turn : Option Turn)
    → Keeps system P → P editor → is_key_stroke key ≡ true → turn_of system editor key replies ≡ turn
    → ((t : Turn) → P t.editor → AllFound (talk_behind system keys replies t).calls (drop (length t.calls) replies) → P (talk_behind system keys replies t).editor)
    → AllFound (talk_with system editor keys replies turn).calls replies → P (talk_with system editor keys replies turn).editor
talk-step system P editor key keys replies None h p k is rest found = p
talk-step system P editor key keys replies (Some t) h p k is rest found =
    let more = (talk_behind system keys replies t).calls in
    let count = length-append t.calls more in
    rest t
    (h.turn editor key replies t k p (before-first t.calls more replies (length (t.calls ++ more)) (omega arith) found) is)
    (before-rest t.calls more replies (length (t.calls ++ more)) (length more) count found)

pub talk-keeps : (system : List Row) (P : Editor → Type 0) (editor : Editor) (keys : List KeyStroke) (replies : List Reply) → Keeps system P → P editor
    → list_all is_key_stroke keys ≡ true → AllFound (talk_from system editor keys replies).calls replies → P (talk_from system editor keys replies).editor
unfolding talk_from
talk-keeps system P editor [] replies h p k found = p
talk-keeps system P editor (key ∷ keys) replies h p k found =
    let parts = and_parts (is_key_stroke key) (list_all is_key_stroke keys) k in
    talk-step system P editor key keys replies (turn_of system editor key replies) h p parts.0 refl
    (λ t q f. talk-keeps system P t.editor keys (drop (length t.calls) replies) h q parts.1 f) found

-- a talk leaves an editor
talk-may : (system : List Row) (editor : Editor) (keys : List KeyStroke) (replies : List Reply) → list_all is_row system ≡ true → MayAsk system editor
    → list_all is_key_stroke keys ≡ true → AllFound (talk_from system editor keys replies).calls replies → MayAsk system (talk_from system editor keys replies).editor
talk-may system editor keys replies rows may k found =
    talk-keeps system (MayAsk system) editor keys replies
    (record { turn = λ e key rs turn s m f is. turn_of-may system e key rs turn rows s m f is }) may k found

pub talk-editor : (system : List Row) (editor : Editor) (keys : List KeyStroke) (replies : List Reply) → list_all is_row system ≡ true → is_editor editor ≡ true
    → HasSingles system editor.buffer.cells → list_all is_key_stroke keys ≡ true → AllFound (talk_from system editor keys replies).calls replies
    → is_editor (talk_from system editor keys replies).editor ≡ true
talk-editor system editor keys replies rows e singles k found = (talk-may system editor keys replies rows (record { is = e; singles = singles }) k found).is

pub talk-singles : (system : List Row) (editor : Editor) (keys : List KeyStroke) (replies : List Reply) → list_all is_row system ≡ true → is_editor editor ≡ true
    → HasSingles system editor.buffer.cells → list_all is_key_stroke keys ≡ true → AllFound (talk_from system editor keys replies).calls replies
    → HasSingles system (talk_from system editor keys replies).editor.buffer.cells
talk-singles system editor keys replies rows e singles k found = (talk-may system editor keys replies rows (record { is = e; singles = singles }) k found).singles

-- choices in turn
apart-at : (choices : List Choice) (k j : ℕ) (choice later : Choice) → are_apart choices ≡ true → slice_get choices k ≡ Some choice → slice_get choices j ≡ Some later → k < j
    → choice_end choice ≤ later.start
apart-at [] k j choice later a e f l = absurd (none-some choice e)
apart-at (first ∷ choices) k zero choice later a e f l = absurd (omega arith)
apart-at (first ∷ choices) zero (suc j) choice later a e f l =
    let parts = and_parts (list_all (λ c. nat_le (choice_end first) c.start) choices) (are_apart choices) a in
    subst (λ (c : Choice). choice_end c ≤ later.start) (same_Some first choice e)
    (leb-true (choice_end first) later.start (passes-at (λ c. nat_le (choice_end first) c.start) choices j later parts.0 f))
apart-at (first ∷ choices) (suc k) (suc j) choice later a e f l =
    let parts = and_parts (list_all (λ c. nat_le (choice_end first) c.start) choices) (are_apart choices) a in
    apart-at choices k j choice later parts.1 e f (omega arith)

buffer-of : (editor : Editor) → is_editor editor ≡ true → IsBuffer editor.buffer
buffer-of editor e = IsBuffer-from editor.buffer (IsEditor-from editor e).steady.buffer

pub choices-apart : (editor : Editor) (k j : ℕ) (choice later : Choice) → is_editor editor ≡ true → slice_get editor.buffer.choices k ≡ Some choice
    → slice_get editor.buffer.choices j ≡ Some later → k < j → choice_end choice ≤ later.start
choices-apart editor k j choice later e f g l = apart-at editor.buffer.choices k j choice later (buffer-of editor e).apart f g l

pub choice-in_run : (editor : Editor) (choice : Choice) → is_editor editor ≡ true → Contains editor.buffer.choices choice
    → (run : PlacedRun) × Contains (runs_of editor.buffer.cells) run × (run.start ≤ choice.start) × (choice_end choice ≤ run_end run)
choice-in_run editor choice e i =
    let cells = editor.buffer.cells in
    let chosen = passes (is_choice_of cells editor.buffer.breaks) editor.buffer.choices choice (buffer-of editor e).chosen i in
    let is = IsChoice-from cells editor.buffer.breaks choice chosen in
    let some = phrase_len-some choice.phrase is.phrase in
    let found = HasRun-sound cells choice.start (is.sounds choice.start (omega arith) (omega arith)) in
    let run = found.run in
    let among = IsAmong-placed 0 found.before run found.behind (ap (are_placed 0) (sym found.parts) ∙ placed-runs_of cells) in
    let places : flat_map run_places (found.before ++ run ∷ found.behind) ≡ sound_places 0 cells = ap (flat_map run_places) (sym found.parts) ∙ places-runs_of cells in
    let apart = ap (list_all (λ p. not (p == run_end run))) (sym places) ∙ apart-end found.before run found.behind among in (
      run,
      subst (λ runs. Contains runs run) (sym found.parts) (middle found.before run found.behind),
      found.from,
      choice-within cells editor.buffer.breaks run choice apart chosen found.to,
    )

pub choice-unbroken : (editor : Editor) (choice : Choice) → is_editor editor ≡ true → Contains editor.buffer.choices choice
    → is_unbroken editor.buffer.breaks (interval_of choice) ≡ true
choice-unbroken editor choice e i =
    let chosen = passes (is_choice_of editor.buffer.cells editor.buffer.breaks) editor.buffer.choices choice (buffer-of editor e).chosen i in
    (and_parts _ (is_unbroken editor.buffer.breaks (interval_of choice)) (and_parts _ _ (and_parts _ (is_choosable editor.buffer.cells editor.buffer.breaks choice) (and_parts _ _ chosen).1).1).1).1
