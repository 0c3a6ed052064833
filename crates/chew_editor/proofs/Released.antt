-- What a full buffer releases.
use Rattle.std.specs.Prelude.{◌≡◌, ℕ, ◌≤◌, true, false, List, [], None, drop, length}
use Rattle.std.proofs.Common.{refl, ap, sym, arith, length-drop, ◌∙◌}
use Rattle.std.proofs.lemmas.Bool.{leb-true, lt-leb}
use Rattle.chew_spec_syllable.specs.Row.{Row}
use Rattle.chew_spec_dictionary.specs.Call.{Call}
use Rattle.chew_spec_layout.specs.Layout.{Layout}
use Rattle.chew_spec_preedit.specs.Buffer.{Buffer, is_buffer}
use Rattle.chew_spec_preedit.specs.Cell.{Cell}
use Rattle.chew_spec_preedit.specs.Edit.{inserted, is_full, released}
use Rattle.chew_spec_preedit.proofs.IsBuffer.{IsBuffer-from}
use Rattle.chew_spec_text.specs.Line.{Note, Quiet}
use Rattle.chew_spec_editor.specs.Editor.{Editor}
use Rattle.chew_spec_editor.specs.Invariant.{is_editor}
use Rattle.chew_spec_editor.specs.Pending.{Pending, with_buffer}
use Rattle.chew_spec_editor.specs.Press.{leading_cells, leading_learns, learn_shown, releasing, text_at}
use Rattle.chew_spec_editor.proofs.Leading.{IsFront, leading-within}
use Rattle.chew_spec_editor.specs.Settings.{Settings}
use Rattle.chew_spec_editor.proofs.Steady.{IsEditor-from}
use Rattle.chew_layouts.specs.Layouts.{layout_of}
use Rattle.chew_editor.specs.Outcome.{asked_by}
use Rattle.chew_editor.specs.declared.state.Typing.{Typing}

-- the cells that lead a full buffer are some of it
pub front-of_full : (editor : Editor) → is_editor editor ≡ true → is_full editor.buffer ≡ true → IsFront editor.buffer.cells (leading_cells editor)
front-of_full editor e full =
    let h = IsEditor-from editor e in
    let some = (IsBuffer-from editor.buffer h.steady.buffer).some in
    let filled = leb-true editor.buffer.limit (length editor.buffer.cells) full in
    leading-within editor h (omega arith)

-- a buffer that released some cells is full no more
pub room-released : (buffer : Buffer) (count : ℕ) → is_buffer buffer ≡ true → 1 ≤ count → count ≤ length buffer.cells → is_full (released count buffer) ≡ false
unfolding released
room-released buffer count e l m =
    let h = IsBuffer-from buffer e in
    let few = h.few in
    let some = h.some in
    lt-leb buffer.limit (length (drop count buffer.cells)) (let d = length-drop count buffer.cells in omega arith)

-- what is released does not hang on the layout
pub releasing-relaid : (system : List Row) (editor : Editor) (layout : Layout) (cell : Cell)
    → releasing system (record editor { layout = layout }) cell
    ≡ record (with_buffer (record editor { layout = layout }) (inserted (released (leading_cells editor) editor.buffer) cell)) {
      changes = leading_learns system editor;
      commit = text_at editor 0 (leading_cells editor);
    }
unfolding releasing leading_learns learn_shown text_at
releasing-relaid system editor layout cell = refl

-- what is typed then, with what is learnt and committed, is what is released
pub released-asked : (system : List Row) (editor : Editor) (typing : Typing) (layout : Layout) (cell : Cell) (calls : List Call) (commit : List ℕ) (note : Note)
    → typing.settings ≡ editor.settings → layout_of typing.layout ≡ layout
    → typing.preedit ≡ inserted (released (leading_cells editor) editor.buffer) cell
    → calls ≡ leading_learns system editor → commit ≡ text_at editor 0 (leading_cells editor) → note ≡ Quiet
    → asked_by typing calls commit note ≡ releasing system (record editor { layout = layout }) cell
released-asked system editor typing layout cell calls commit note s l b c t n =
    let buffer = inserted (released (leading_cells editor) editor.buffer) cell in
    let made : Settings → Layout → Buffer → List Call → List ℕ → Note → Pending = λ a b c d e f. record {
      editor = record { settings = a; layout = b; buffer = c; pieces = []; window = None };
      changes = d;
      commit = e;
      note = f;
      opens = None;
    } in
    ap (λ x. made x (layout_of typing.layout) typing.preedit calls commit note) s
    ∙ ap (λ x. made editor.settings x typing.preedit calls commit note) l
    ∙ ap (λ x. made editor.settings layout x calls commit note) b
    ∙ ap (λ x. made editor.settings layout buffer x commit note) c
    ∙ ap (λ x. made editor.settings layout buffer (leading_learns system editor) x note) t
    ∙ ap (λ x. made editor.settings layout buffer (leading_learns system editor) (text_at editor 0 (leading_cells editor)) x) n
    ∙ sym (releasing-relaid system editor layout cell)
