-- An editor alone with its dictionary stays an editor.
use Rattle.std.specs.Prelude.{◌≡◌, ℕ, zero, suc, Bool, true, ◌&&◌, List, [], ◌∷◌, ◌++◌, drop, map, length, slice_get, Some}
use Rattle.std.specs.List.{list_all}
use Rattle.std.proofs.Common.{refl, ap, sym, ◌∙◌}
use Rattle.std.proofs.lemmas.Bool.{and_from, and_parts}
use Rattle.std.proofs.lemmas.List.{drop_at}
use Rattle.std.proofs.lemmas.List.Folds.{list_all-append}
use Rattle.std.proofs.lemmas.Option.{none-some, same_Some}
use Rattle.chew_spec_syllable.specs.Row.{Row, is_row}
use Rattle.chew_spec_dictionary.specs.Call.{Call, Look, Learn, Forget, Hide, Freeze, Install, Reply, Rows, is_proper}
use Rattle.chew_spec_dictionary.specs.History.{Point, answer}
use Rattle.chew_spec_dictionary.specs.Look.{hits_of}
use Rattle.chew_spec_dictionary.proofs.Invariants.{after_rows}
use Rattle.chew_spec_preedit.specs.PlacedRun.{PlacedRun}
use Rattle.chew_spec_text.specs.KeyStroke.{KeyStroke, is_key_stroke}
use Rattle.chew_spec_editor.specs.Alone.{Alone, after_pressed, alone, alone_from, point_after, replies_from}
use Rattle.chew_spec_editor.specs.Answers.{AreAnswers, IsFound}
use Rattle.chew_spec_editor.specs.Editor.{Editor}
use Rattle.chew_spec_editor.specs.Finish.{finish}
use Rattle.chew_spec_editor.specs.Invariant.{HasSingles, is_editor}
use Rattle.chew_spec_editor.specs.Keys.{press}
use Rattle.chew_spec_editor.specs.Pending.{Pending, calls_of, runs_asked}
use Rattle.chew_spec_editor.specs.Press.{Pressed, Done, Ask}
use Rattle.chew_spec_editor.proofs.Asking.{proper-calls}
use Rattle.chew_spec_editor.proofs.Finished.{is_editor-finish}
use Rattle.chew_spec_editor.proofs.Keeping.{is_editor-done, is_pending-ask}
use Rattle.chew_spec_editor.proofs.Singles.{HasSingles-ask, HasSingles-done}

-- the rows of a point are rows
abbrev pub has_rows : Point → Bool
has_rows point = list_all is_row point.dictionary.pairs

-- a call that may be made leaves rows
answer-rows : (point : Point) (call : Call) → is_proper call ≡ true → has_rows point ≡ true → has_rows (answer point call).point ≡ true
answer-rows point (Look run) e h = h
answer-rows point (Learn key phrase orig peak) e h =
    after_rows point (record { who = 1; call = Learn key phrase orig peak } ∷ [])
    (and_from (is_proper (Learn key phrase orig peak) && true) true (and_from (is_proper (Learn key phrase orig peak)) true e refl) refl) h
answer-rows point (Forget key phrase) e h =
    after_rows point (record { who = 1; call = Forget key phrase } ∷ [])
    (and_from (is_proper (Forget key phrase) && true) true (and_from (is_proper (Forget key phrase)) true e refl) refl) h
answer-rows point (Hide key phrase) e h =
    after_rows point (record { who = 1; call = Hide key phrase } ∷ [])
    (and_from (is_proper (Hide key phrase) && true) true (and_from (is_proper (Hide key phrase)) true e refl) refl) h
answer-rows point Freeze e h = h
answer-rows point (Install number) e h = h

pub point-rows : (point : Point) (calls : List Call) → list_all is_proper calls ≡ true → has_rows point ≡ true → has_rows (point_after point calls) ≡ true
point-rows point [] e h = h
point-rows point (call ∷ calls) e h =
    let parts = and_parts (is_proper call) (list_all is_proper calls) e in
    point-rows (answer point call).point calls parts.1 (answer-rows point call parts.0 h)

-- one reply a call
length-replies_from : (point : Point) (calls : List Call) → length (replies_from point calls) ≡ length calls
length-replies_from point [] = refl
length-replies_from point (call ∷ calls) = ap suc (length-replies_from (answer point call).point calls)

replies-joined : (point : Point) (calls more : List Call) → replies_from point (calls ++ more) ≡ replies_from point calls ++ replies_from (point_after point calls) more
replies-joined point [] more = refl
replies-joined point (call ∷ calls) more = ap (λ rs. (answer point call).reply ∷ rs) (replies-joined (answer point call).point calls more)

-- a look-up finds what the dictionary has
looks-found : (point : Point) (runs : List PlacedRun) → has_rows point ≡ true → (k : ℕ) (run : PlacedRun) (reply : Reply) → slice_get runs k ≡ Some run
    → slice_get (replies_from point (map (λ (run : PlacedRun). Look run.codes) runs)) k ≡ Some reply → IsFound run reply
looks-found point [] h k run reply e f = absurd (none-some run e)
looks-found point (first ∷ runs) h zero run reply e f = record {
  rows = point.dictionary.pairs;
  are_rows = h;
  is = sym (same_Some (Rows (hits_of point.dictionary.pairs first.codes)) reply f)
      ∙ ap (λ (r : PlacedRun). Rows (hits_of point.dictionary.pairs r.codes)) (same_Some first run e);
}
looks-found point (first ∷ runs) h (suc k) run reply e f = looks-found (answer point (Look first.codes)).point runs h k run reply e f

pub AreAnswers-alone : (point : Point) (pending : Pending) → has_rows point ≡ true → list_all is_proper (calls_of pending) ≡ true → AreAnswers pending (replies_from point (calls_of pending))
AreAnswers-alone point pending h e =
    let looks = map (λ (run : PlacedRun). Look run.codes) (runs_asked pending) in
    let changes = and_parts (list_all is_proper pending.changes) (list_all is_proper looks) (sym (list_all-append is_proper pending.changes looks) ∙ e) in
    let then = point_after point pending.changes in
    let behind : drop (length pending.changes) (replies_from point (pending.changes ++ looks)) ≡ replies_from then looks =
    ap (drop (length pending.changes)) (replies-joined point pending.changes looks)
    ∙ drop_at (replies_from point pending.changes) (replies_from then looks) (length pending.changes) (length-replies_from point pending.changes) in
    record {
      one_each = length-replies_from point (calls_of pending);
      found = λ k run reply f g.
          looks-found then (runs_asked pending) (point-rows point pending.changes changes.0 h) k run reply f (ap (λ rs. slice_get rs k) (sym behind) ∙ g);
    }

-- an editor with a dictionary of rows, and a row by itself for each of its syllables
record IsAlone (system : List Row) (alone : Alone) : Type 0 where
  pub is : is_editor alone.editor ≡ true
  pub singles : HasSingles system alone.editor.buffer.cells
  pub rows : has_rows alone.point ≡ true

pressed-alone : (system : List Row) (had : Alone) (key : KeyStroke) (pressed : Pressed) → press system had.editor key ≡ pressed → list_all is_row system ≡ true
    → is_key_stroke key ≡ true → IsAlone system had → IsAlone system (after_pressed system had pressed)
unfolding finish
pressed-alone system had key (Done editor line) d e k h = record {
  is = is_editor-done system had.editor editor key line h.is k d;
  singles = HasSingles-done system had.editor editor key line h.singles d;
  rows = h.rows;
}
pressed-alone system had key (Ask pending) d e k h =
    let proper = proper-calls system had.editor key pending e h.is k d in
    let replies = replies_from had.point (calls_of pending) in
    let singles = HasSingles-ask system had.editor key pending h.singles d in
    record {
      is = is_editor-finish system pending replies e singles (is_pending-ask system had.editor key pending h.is k d) (AreAnswers-alone had.point pending h.rows proper);
      singles = singles;
      rows = point-rows had.point (calls_of pending) proper h.rows;
    }

from-alone : (system : List Row) (had : Alone) (keys : List KeyStroke) → list_all is_row system ≡ true → list_all is_key_stroke keys ≡ true → IsAlone system had
    → IsAlone system (alone_from system had keys)
unfolding alone_from
from-alone system had [] e k h = h
from-alone system had (key ∷ keys) e k h =
    let parts = and_parts (is_key_stroke key) (list_all is_key_stroke keys) k in
    from-alone system (after_pressed system had (press system had.editor key)) keys e parts.1 (pressed-alone system had key (press system had.editor key) refl e parts.0 h)

pub is_editor-alone : (system : List Row) (editor : Editor) (point : Point) (keys : List KeyStroke) → list_all is_row system ≡ true
    → HasSingles system editor.buffer.cells → is_editor editor ≡ true → list_all is_row point.dictionary.pairs ≡ true → list_all is_key_stroke keys ≡ true
    → is_editor (alone system editor point keys).editor ≡ true
is_editor-alone system editor point keys e singles h rows k =
    (from-alone system (record { editor = editor; point = point; calls = []; replies = []; lines = [] }) keys e k (record { is = h; singles = singles; rows = rows })).is
