-- What a key more makes of what was counted.
use Rattle.std.specs.Prelude.{◌≡◌, ℕ, ◌+◌, true, List, [], ◌∷◌, ◌++◌, cond, length, Result, Ok, Err, IfOk}
use Rattle.std.specs.List.{list_all}
use Rattle.std.proofs.Common.{ap, ap₂, sym, subst, ◌∙◌}
use Rattle.std.proofs.lemmas.List.{length-append}
use Rattle.chew_spec_syllable.specs.Row.{Row}
use Rattle.chew_spec_dictionary.specs.Call.{Call, is_proper}
use Rattle.chew_spec_dictionary.specs.History.{Point, is_user_call}
use Rattle.chew_spec_dictionary.proofs.Legal.{user-proper}
use Rattle.chew_spec_preedit.proofs.Kept.{list_all-weaker}
use Rattle.chew_spec_text.specs.KeyStroke.{KeyStroke}
use Rattle.chew_spec_text.specs.Line.{Line}
use Rattle.chew_spec_editor.specs.Alone.{Alone, after_pressed, alone_from, point_after, replies_from}
use Rattle.chew_spec_editor.specs.Editor.{Editor, empty_editor}
use Rattle.chew_spec_editor.specs.Finish.{finish}
use Rattle.chew_spec_editor.specs.Keys.{press}
use Rattle.chew_spec_editor.specs.Pending.{Pending, calls_of}
use Rattle.chew_spec_editor.specs.Press.{Pressed, Done, Ask}
use Rattle.chew_spec_editor.specs.Settings.{Settings}
use Rattle.chew_spec_session.specs.Context.{Basis}
use Rattle.chew_spec_program.specs.Make.{has_commit, typed_over}
use Rattle.chew_spec_program.proofs.Typing.{commits_more, one_more}
use Rattle.chew_make.specs.Counts.{Counted, basis_in, counted, key_counted, nothing_learnt, tally, tally_of}
use Rattle.chew_make.specs.declared.typist.Typist.{Typist}

-- a key that was answered at once
pub key_done : (system : List Row) (had : Counted) (pressed : Pressed) (editor : Editor) (line : Line) (commits : ℕ) → Done editor line ≡ pressed
    → commits ≡ had.commits + cond (has_commit line) 1 0 → tally editor had.point had.calls commits ≡ key_counted system had pressed
key_done system had pressed editor line commits is sum = ap (tally editor had.point had.calls) sum ∙ ap (key_counted system had) is

-- a key that made calls
pub key_asked : {E : Type 0} (outcome : Result Typist E) (system : List Row) (had : Counted) (pressed : Pressed) (pending : Pending) → Ask pending ≡ pressed
    → IfOk outcome (λ next. next.editor ≡ (finish system pending (replies_from had.point (calls_of pending))).editor)
    → IfOk outcome (λ next. next.plain ≡ point_after had.point (calls_of pending))
    → IfOk outcome (λ next. next.calls ≡ had.calls + length (calls_of pending))
    → IfOk outcome (λ next. next.commits ≡ had.commits + cond (has_commit (finish system pending (replies_from had.point (calls_of pending))).line) 1 0)
    → IfOk outcome (λ next. tally_of next ≡ key_counted system had pressed)
key_asked (Ok next) system had pressed pending is left moved made sum =
    ap₂ (λ (e : Editor) (p : Point). tally e p next.calls next.commits) left moved
    ∙ ap₂ (tally (finish system pending (replies_from had.point (calls_of pending))).editor (point_after had.point (calls_of pending))) made sum
    ∙ ap (key_counted system had) is
key_asked (Err refused) system had pressed pending is left moved made sum = tt

-- calls that anyone may make are proper
pub all_proper : (pending : Pending) (made : List Call) → made ≡ calls_of pending → list_all is_user_call made ≡ true → list_all is_proper (calls_of pending) ≡ true
all_proper pending made same users =
    list_all-weaker is_user_call is_proper user-proper (calls_of pending) (subst (λ (calls : List Call). list_all is_user_call calls ≡ true) same users)

-- what was counted is what came of an editor alone
pub key_more : (system : List Row) (alone : Alone) (pressed : Pressed) → key_counted system (counted alone) pressed ≡ counted (after_pressed system alone pressed)
key_more system alone (Done editor line) = ap (tally editor alone.point (length alone.calls)) (sym (commits_more alone.lines line))
key_more system alone (Ask pending) =
    ap₂ (tally (finish system pending (replies_from alone.point (calls_of pending))).editor (point_after alone.point (calls_of pending)))
    (sym (length-append alone.calls (calls_of pending)))
    (sym (commits_more alone.lines (finish system pending (replies_from alone.point (calls_of pending))).line))

-- no key was typed
pub typed_none : (settings : Settings) (system : List Row) (typist : Counted) → typist ≡ tally (empty_editor settings) (nothing_learnt settings) 0 0
    → typist ≡ counted (typed_over (basis_in settings system) [])
unfolding alone_from
typed_none settings system typist is = is

-- one key more
pub typed_key : (basis : Basis) (keys : List KeyStroke) (key : KeyStroke) (had next : Counted) → had ≡ counted (typed_over basis keys)
    → next ≡ key_counted basis.system had (press basis.system had.editor key) → next ≡ counted (typed_over basis (keys ++ (key ∷ [])))
typed_key basis keys key had next were is =
    let alone : Alone = typed_over basis keys in
    is
    ∙ ap (λ (h : Counted). key_counted basis.system h (press basis.system h.editor key)) were
    ∙ key_more basis.system alone (press basis.system alone.editor key)
    ∙ ap counted (sym (one_more basis.system (record { editor = empty_editor basis.settings; point = basis.start; calls = []; replies = []; lines = [] }) keys key))
