-- A key that was handled, and one that was not.
use Rattle.std.specs.Prelude.{◌≡◌, ℕ, List, [], ◌++◌, length, Some, Result, Ok, Err, IfOk, OnOk, OnErr}
use Rattle.std.proofs.Common.{refl, ap, sym, subst, ◌∙◌, arith}
use Rattle.std.proofs.lemmas.Bool.{cond-true, le-leb}
use Rattle.std.proofs.lemmas.List.{append-nil, take_all}
use Rattle.chew_spec_syllable.specs.Row.{Row}
use Rattle.chew_spec_dictionary.specs.Call.{Call, Reply}
use Rattle.chew_spec_dictionary.specs.History.{Entry, Point}
use Rattle.chew_spec_dictionary.specs.Growth.{Made}
use Rattle.chew_spec_dictionary.proofs.Growing.{grown-each, made-nothing}
use Rattle.chew_spec_editor.specs.Editor.{Editor}
use Rattle.chew_spec_editor.specs.Finish.{finish}
use Rattle.chew_spec_editor.specs.Keys.{calls_asked, press}
use Rattle.chew_spec_editor.specs.Pending.{Pending, calls_of}
use Rattle.chew_spec_editor.specs.Press.{Pressed, Done, Ask}
use Rattle.chew_spec_editor.specs.Talk.{turn_after}
use Rattle.chew_spec_text.specs.KeyStroke.{KeyStroke}
use Rattle.chew_spec_text.specs.Line.{Line, line_text}
use Rattle.chew_session.specs.Typing.{Answered, Asks, Turns}

-- no call was made
pub asks-none : (start : Point) (who : ℕ) (calls : List Call) (seen : List Entry) → Asks start who calls seen seen
asks-none start who calls seen = record { asked = []; heard = []; front = record { rest = calls; joined = refl }; made = made-nothing start seen who }

-- all of them were
pub asks-all : (start : Point) (who : ℕ) (calls : List Call) (before now : List Entry) (heard : List Reply) → Made start before now who calls heard
    → Asks start who calls before now
asks-all start who calls before now heard made = record { asked = calls; heard = heard; front = record { rest = []; joined = sym (append-nil calls) }; made = made }

-- what holds anyway, and what two steps keep
pub on-err-from : {V E : Type 0} (p : Type 0) (r : Result V E) → p → OnErr r p
on-err-from p (Ok v) h = tt
on-err-from p (Err x) h = h

module _ (system : List Row) (start : Point) (who : ℕ) (key : KeyStroke) (had : Editor) where
  -- a key that made no call
  turns-done : (next editor : Editor) (line : Line) (seen : List Entry) (text roomy longer : List ℕ) → Done next line ≡ press system had key → editor ≡ next
      → roomy ≡ text → longer ≡ roomy ++ line_text line → Turns system start who key had editor seen seen text longer
  turns-done next editor line seen text roomy longer is same kept printed = record {
    calls = [];
    heard = [];
    line = line;
    made = made-nothing start seen who;
    turned = ap (λ (p : Pressed). turn_after system p []) (sym is) ∙ ap (λ (e : Editor). Some (record { calls = []; line = line; editor = e })) (sym same);
    printed = printed ∙ ap (λ (l : List ℕ). l ++ line_text line) kept;
  }

  pub done : {N E : Type 0} (view : N → Editor) (outcome : Result N E) (next : Editor) (line : Line) (seen : List Entry) (text roomy longer : List ℕ)
      → Done next line ≡ press system had key → IfOk outcome (λ e. view e ≡ next) → roomy ≡ text → OnOk outcome (longer ≡ roomy ++ line_text line)
      → IfOk outcome (λ e. Turns system start who key had (view e) seen seen text longer)
  done view (Ok e) next line seen text roomy longer is same kept printed = turns-done next (view e) line seen text roomy longer is same kept printed
  done view (Err x) next line seen text roomy longer is same kept printed = tt

  -- a key whose calls were answered
  turns-answered : (pending : Pending) (editor : Editor) (before now : List Entry) (text roomy longer : List ℕ) → Ask pending ≡ press system had key → roomy ≡ text
      → Answered system start who pending editor before now roomy longer → Turns system start who key had editor before now text longer
  turns-answered pending editor before now text roomy longer is kept answered =
      let replies : List Reply = answered.heard in
      let count = grown-each start before now who (calls_of pending) replies answered.made in
      record {
        calls = calls_of pending;
        heard = replies;
        line = (finish system pending replies).line;
        made = answered.made;
        turned = ap (λ (p : Pressed). turn_after system p replies) (sym is)
            ∙ cond-true _ _ _ (le-leb (length (calls_of pending)) (length replies) (omega arith))
            ∙ ap (λ (heard : List Reply). Some (record { calls = calls_of pending; line = (finish system pending heard).line; editor = (finish system pending heard).editor }))
            (take_all (length (calls_of pending)) replies (omega arith))
            ∙ ap (λ (e : Editor). Some (record { calls = calls_of pending; line = (finish system pending replies).line; editor = e })) (sym answered.left);
        printed = answered.printed ∙ ap (λ (l : List ℕ). l ++ line_text (finish system pending replies).line) kept;
      }

  pub asked : {N E : Type 0} (view : N → Editor) (outcome : Result N E) (pending : Pending) (before now : List Entry) (text roomy longer : List ℕ)
      → Ask pending ≡ press system had key → roomy ≡ text → IfOk outcome (λ e. Answered system start who pending (view e) before now roomy longer)
      → IfOk outcome (λ e. Turns system start who key had (view e) before now text longer)
  asked view (Ok e) pending before now text roomy longer is kept answered = turns-answered pending (view e) before now text roomy longer is kept answered
  asked view (Err x) pending before now text roomy longer is kept answered = tt

  -- a key of which only some calls were made
  pub stopped : {V E : Type 0} (outcome : Result V E) (pending : Pending) (before now : List Entry) → Ask pending ≡ press system had key
      → OnErr outcome (Asks start who (calls_of pending) before now) → OnErr outcome (Asks start who (calls_asked (press system had key)) before now)
  stopped (Ok v) pending before now is asks = tt
  stopped (Err x) pending before now is asks = subst (λ (p : Pressed). Asks start who (calls_asked p) before now) is asks

-- a key whose calls were all made
pub answered : {N E : Type 0} (system : List Row) (start : Point) (who : ℕ) (pending : Pending) (before now : List Entry) (text longer : List ℕ) (heard : List Reply)
    (view : N → Editor) (outcome : Result N E) → Made start before now who (calls_of pending) heard
    → IfOk outcome (λ e. view e ≡ (finish system pending heard).editor) → OnOk outcome (longer ≡ text ++ line_text (finish system pending heard).line)
    → IfOk outcome (λ e. Answered system start who pending (view e) before now text longer)
answered system start who pending before now text longer heard view (Ok e) made left printed = record { heard = heard; made = made; left = left; printed = printed }
answered system start who pending before now text longer heard view (Err x) made left printed = tt
