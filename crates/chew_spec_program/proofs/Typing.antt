-- An editor that types alone: one key more, its turn, and the talk.
use Rattle.std.specs.Prelude.{◌≡◌, ℕ, suc, ◌+◌, Bool, true, false, List, [], ◌∷◌, ◌++◌, count_by, length, map, nat_le, sum_by, take, drop, ◌==◌, Option, Some, None}
use Rattle.std.proofs.Common.{refl, ap, ap₂, sym, subst, ◌∙◌, arith, cond}
use Rattle.std.proofs.lemmas.Bool.{cond-true, eq-eqb, le-leb}
use Rattle.std.proofs.lemmas.List.{append-nil, append_assoc, length-append, map-append, take_all}
use Rattle.std.proofs.lemmas.List.Sums.{sum_by-append}
use Rattle.chew_spec_syllable.specs.Row.{Row}
use Rattle.chew_spec_dictionary.specs.Call.{Call, Reply}
use Rattle.chew_spec_dictionary.specs.History.{Entry, Point, after, answer, replies}
use Rattle.chew_spec_dictionary.proofs.Histories.{after_joined, replies_joined}
use Rattle.chew_spec_text.specs.KeyStroke.{KeyStroke}
use Rattle.chew_spec_text.specs.Line.{Line}
use Rattle.chew_spec_editor.specs.Alone.{Alone, after_pressed, alone_from, point_after, replies_from}
use Rattle.chew_spec_editor.specs.Editor.{Editor, empty_editor}
use Rattle.chew_spec_editor.specs.Finish.{Finished, finish}
use Rattle.chew_spec_editor.specs.Keys.{press}
use Rattle.chew_spec_editor.specs.Pending.{Pending, calls_of}
use Rattle.chew_spec_editor.specs.Press.{Pressed, Done, Ask}
use Rattle.chew_spec_editor.specs.Talk.{Turn, turn_after, turn_of}
use Rattle.chew_spec_session.specs.Context.{Basis}
use Rattle.chew_spec_program.specs.Make.{alone_by, has_commit, typed_over}

-- what its calls are answered
abbrev pub heard_alone : Point → List Call → List Reply
heard_alone point calls = replies point (alone_by calls) 1

-- each of its calls is heard
pub heard-replies : (point : Point) (calls : List Call) → heard_alone point calls ≡ replies_from point calls
heard-replies point [] = refl
heard-replies point (call ∷ calls) = ap (λ (l : List Reply). (answer point call).reply ∷ l) (heard-replies (answer point call).point calls)

pub after-point : (point : Point) (calls : List Call) → after point (alone_by calls) ≡ point_after point calls
after-point point [] = refl
after-point point (call ∷ calls) = after-point (answer point call).point calls

pub length-replies : (point : Point) (calls : List Call) → length (replies_from point calls) ≡ length calls
length-replies point [] = refl
length-replies point (call ∷ calls) = ap suc (length-replies (answer point call).point calls)

-- one key more
pub one_more : (system : List Row) (had : Alone) (keys : List KeyStroke) (key : KeyStroke)
    → alone_from system had (keys ++ key ∷ []) ≡ after_pressed system (alone_from system had keys) (press system (alone_from system had keys).editor key)
unfolding alone_from
one_more system had [] key = refl
one_more system had (first ∷ keys) key = one_more system (after_pressed system had (press system had.editor first)) keys key

-- an editor alone after a turn more
abbrev pub with_turn : Alone → Turn → Alone
with_turn had turn = record {
  editor = turn.editor;
  point = after had.point (alone_by turn.calls);
  calls = had.calls ++ turn.calls;
  replies = had.replies ++ heard_alone had.point turn.calls;
  lines = had.lines ++ turn.line ∷ [];
}

-- the turn of a key that was answered
abbrev pub finished_turn : List Row → Pending → List Reply → Turn
finished_turn system pending heard = record {
  calls = calls_of pending;
  line = (finish system pending heard).line;
  editor = (finish system pending heard).editor;
}

-- a line more, and whether it committed something
pub commits_more : (lines : List Line) (line : Line) → count_by has_commit (lines ++ line ∷ []) ≡ count_by has_commit lines + cond (has_commit line) 1 0
commits_more lines line =
    let joined : count_by has_commit (lines ++ line ∷ []) ≡ count_by has_commit lines + count_by has_commit (line ∷ []) =
    sum_by-append (λ (l : Line). cond (has_commit l) 1 0) lines (line ∷ []) in
    let one : count_by has_commit (line ∷ []) ≡ cond (has_commit line) 1 0 = omega arith in
    joined ∙ ap (λ (n : ℕ). count_by has_commit lines + n) one
