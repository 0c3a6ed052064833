-- A key that asks nothing, and one that asks something.
use Rattle.std.specs.Prelude.{◌≡◌, ℕ, ◌++◌, ◌==◌, List, [], None, length, map, take, false}
use Rattle.std.proofs.Common.{refl, ap, ap₂, sym, ◌∙◌, arith, length-append}
use Rattle.std.proofs.Math.Seq.{take-append_seam}
use Rattle.std.proofs.lemmas.List.{length-map, nil_from_length}
use Rattle.chew_spec_syllable.specs.Row.{Row}
use Rattle.chew_spec_dictionary.specs.Call.{Call, Look}
use Rattle.chew_spec_phrasing.specs.Usable.{Piece}
use Rattle.chew_spec_preedit.specs.PlacedRun.{PlacedRun, runs_of}
use Rattle.chew_spec_text.specs.Line.{Note}
use Rattle.chew_spec_editor.specs.Editor.{line_of}
use Rattle.chew_spec_editor.specs.Finish.{finish, phrased}
use Rattle.chew_spec_editor.specs.Pending.{Pending, calls_of}
use Rattle.chew_spec_editor.specs.Press.{Ask, Done, asking}
use Rattle.chew_editor.specs.Outcome.{asked_by}
use Rattle.chew_editor.specs.State.{editor_of}
use Rattle.chew_editor.specs.declared.state.Typing.{Typing}

-- the look-up of a run
abbrev look : PlacedRun → Call
look run = Look run.codes

-- without a call there is no change and no run
no_changes : (changes : List Call) (runs : List PlacedRun) → length (changes ++ map look runs) ≡ 0 → changes ≡ []
no_changes changes runs e = nil_from_length changes (omega (arith, e, length-append changes (map look runs)))

no_runs : (changes : List Call) (runs : List PlacedRun) → length (changes ++ map look runs) ≡ 0 → runs ≡ []
no_runs changes runs e = nil_from_length runs (omega (arith, e, length-append changes (map look runs), length-map runs look))

-- without changes and runs a key is done at once
with_nothing : (system : List Row) (typing : Typing) (commit : List ℕ) (note : Note) → runs_of typing.preedit.cells ≡ []
    → asking system (asked_by typing [] commit note) ≡ Done (editor_of typing [] None) (line_of (editor_of typing [] None) commit note)
unfolding asking finish phrased
with_nothing system typing commit note e = rw e refl

pub asking-nothing : (system : List Row) (typing : Typing) (changes : List Call) (commit : List ℕ) (note : Note)
    → length (calls_of (asked_by typing changes commit note)) ≡ 0
    → asking system (asked_by typing changes commit note) ≡ Done (editor_of typing [] None) (line_of (editor_of typing [] None) commit note)
asking-nothing system typing changes commit note e =
    ap (λ cs. asking system (asked_by typing cs commit note)) (no_changes changes (runs_of typing.preedit.cells) e)
    ∙ with_nothing system typing commit note (no_runs changes (runs_of typing.preedit.cells) e)

-- the changes are the first of the calls
pub changes-first : (changes calls : List Call) (runs : List PlacedRun) (count : ℕ) → count ≡ length changes → calls ≡ changes ++ map look runs → take count calls ≡ changes
changes-first changes calls runs count c e =
    ap (λ n. take n calls) c ∙ ap (take (length changes)) e ∙ take-append_seam changes (map look runs)

-- without calls there is none, of changes and of the runs
pub nothing-asked : (changes calls : List Call) (runs all : List PlacedRun) → calls ≡ changes ++ map look runs → runs ≡ all → length calls ≡ 0
    → length (changes ++ map look all) ≡ 0
nothing-asked changes calls runs all e r n = ap (λ rs. length (changes ++ map look rs)) (sym r) ∙ sym (ap length e) ∙ n

pub some-asked : (changes calls : List Call) (runs all : List PlacedRun) → calls ≡ changes ++ map look runs → runs ≡ all → (length calls == 0) ≡ false
    → (length (changes ++ map look all) == 0) ≡ false
some-asked changes calls runs all e r n = ap (λ rs. length (changes ++ map look rs) == 0) (sym r) ∙ sym (ap (λ cs. length cs == 0) e) ∙ n

-- what is typed with no piece and with these changes
pub is-asked_by : (typing : Typing) (pieces : List Piece) (first changes : List Call) (commit : List ℕ) (note : Note) → pieces ≡ [] → first ≡ changes
    → record { editor = editor_of typing pieces None; changes = first; commit = commit; note = note; opens = None } ≡ asked_by typing changes commit note
is-asked_by typing pieces first changes commit note p c =
    let made : List Piece → List Call → Pending = λ ps cs. record { editor = editor_of typing ps None; changes = cs; commit = commit; note = note; opens = None } in
    ap₂ made p c

-- with a call it asks
pub asking-some : (system : List Row) (pending : Pending) → (length (calls_of pending) == 0) ≡ false → asking system pending ≡ Ask pending
unfolding asking
asking-some system pending e = rw e refl
