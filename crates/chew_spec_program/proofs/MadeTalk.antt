-- An editor that types alone is in a talk.
use Rattle.std.specs.Prelude.{◌≡◌, ℕ, suc, ◌+◌, ◌≤◌, List, [], ◌∷◌, ◌++◌, length, map, nat_le, take, drop, Option, Some, None}
use Rattle.std.specs.Option.{option_map_or}
use Rattle.std.proofs.Common.{refl, ap, ap₂, sym, subst, ◌∙◌, arith}
use Rattle.std.proofs.Math.Seq.{drop-append_seam, take-append_seam}
use Rattle.std.proofs.lemmas.Bool.{cond-true, le-leb}
use Rattle.std.proofs.lemmas.List.{append-nil, append_assoc, length-append, map-append}
use Rattle.chew_spec_syllable.specs.Row.{Row}
use Rattle.chew_spec_dictionary.specs.Call.{Call, Reply}
use Rattle.chew_spec_dictionary.specs.History.{Entry, Point, after, replies}
use Rattle.chew_spec_dictionary.proofs.Histories.{after_joined, replies_joined}
use Rattle.chew_spec_text.specs.KeyStroke.{KeyStroke}
use Rattle.chew_spec_text.specs.Line.{Line}
use Rattle.chew_spec_editor.specs.Alone.{Alone, after_pressed, alone_from, replies_from}
use Rattle.chew_spec_editor.specs.Editor.{Editor, empty_editor}
use Rattle.chew_spec_editor.specs.Finish.{finish}
use Rattle.chew_spec_editor.specs.Keys.{press}
use Rattle.chew_spec_editor.specs.Pending.{calls_of}
use Rattle.chew_spec_editor.specs.Press.{Pressed, Done, Ask}
use Rattle.chew_spec_editor.specs.Talk.{Talk, Turn, after_key, silence, talk_from, turn_after, turn_of}
use Rattle.chew_spec_session.specs.Context.{Basis, talk_in}
use Rattle.chew_spec_program.specs.Make.{alone_by, typed_over}
use Rattle.chew_spec_program.proofs.Typing.{after-point, finished_turn, heard-replies, heard_alone, length-replies, with_turn}

-- calls and then more are answered one after another
heard_joined : (point : Point) (calls more : List Call)
    → heard_alone point (calls ++ more) ≡ heard_alone point calls ++ heard_alone (after point (alone_by calls)) more
heard_joined point calls more =
    ap (λ (l : List Entry). replies point l 1) (map-append (λ call. record { who = 1; call = call }) calls more)
    ∙ replies_joined point (alone_by calls) (alone_by more) 1

after_both : (point : Point) (calls more : List Call) → after point (alone_by (calls ++ more)) ≡ after (after point (alone_by calls)) (alone_by more)
after_both point calls more =
    ap (after point) (map-append (λ call. record { who = 1; call = call }) calls more) ∙ after_joined point (alone_by calls) (alone_by more)

-- as many as there are calls
heard_counted : (point : Point) (calls : List Call) → length (heard_alone point calls) ≡ length calls
heard_counted point calls = ap length (heard-replies point calls) ∙ length-replies point calls

-- the replies to the first calls, and those behind
first_heard : (point : Point) (calls more : List Call) → take (length calls) (heard_alone point (calls ++ more)) ≡ heard_alone point calls
first_heard point calls more =
    ap₂ (λ (n : ℕ) (l : List Reply). take n l) (sym (heard_counted point calls)) (heard_joined point calls more)
    ∙ take-append_seam (heard_alone point calls) (heard_alone (after point (alone_by calls)) more)

rest_heard : (point : Point) (calls more : List Call)
    → drop (length calls) (heard_alone point (calls ++ more)) ≡ heard_alone (after point (alone_by calls)) more
rest_heard point calls more =
    ap₂ (λ (n : ℕ) (l : List Reply). drop n l) (sym (heard_counted point calls)) (heard_joined point calls more)
    ∙ drop-append_seam (heard_alone point calls) (heard_alone (after point (alone_by calls)) more)

-- what a key makes of an editor alone is a turn, whatever calls follow
record IsTurn (system : List Row) (had : Alone) (pressed : Pressed) : Type 0 where
  turn : Turn
  next : after_pressed system had pressed ≡ with_turn had turn
  turned : (more : List Call) → turn_after system pressed (heard_alone had.point (turn.calls ++ more)) ≡ Some turn

turn_alone : (system : List Row) (had : Alone) (pressed : Pressed) → IsTurn system had pressed
turn_alone system had (Done editor line) = record {
  turn = record { calls = []; line = line; editor = editor };
  next = ap₂ (λ (calls : List Call) (heard : List Reply). record { editor = editor; point = had.point; calls = calls; replies = heard; lines = had.lines ++ line ∷ [] })
      (sym (append-nil had.calls)) (sym (append-nil had.replies));
  turned = λ more. refl;
}
turn_alone system had (Ask pending) =
    let calls : List Call = calls_of pending in
    record {
      turn = finished_turn system pending (replies_from had.point calls);
      next = ap₂ (λ (point : Point) (heard : List Reply). record {
        editor = (finish system pending (replies_from had.point calls)).editor;
        point = point;
        calls = had.calls ++ calls;
        replies = had.replies ++ heard;
        lines = had.lines ++ (finish system pending (replies_from had.point calls)).line ∷ [];
      }) (sym (after-point had.point calls)) (sym (heard-replies had.point calls));
      turned = λ more.
          let longer : length (heard_alone had.point (calls ++ more)) ≡ length (calls ++ more) = heard_counted had.point (calls ++ more) in
          let both : length (calls ++ more) ≡ length calls + length more = length-append calls more in
          cond-true (nat_le (length calls) (length (heard_alone had.point (calls ++ more)))) _ _ (le-leb _ _ (omega arith))
          ∙ ap (λ (heard : List Reply). Some (finished_turn system pending heard)) (first_heard had.point calls more ∙ heard-replies had.point calls);
    }

-- the keys were typed in a talk
record Follows (system : List Row) (had : Alone) (keys : List KeyStroke) (now : Alone) : Type 0 where
  calls : List Call
  lines : List Line
  talked : talk_from system had.editor keys (heard_alone had.point calls) ≡ record { calls = calls; lines = lines; editor = now.editor; replies = [] }
  made : now.calls ≡ had.calls ++ calls
  shown : now.lines ≡ had.lines ++ lines
  point : now.point ≡ after had.point (alone_by calls)
  each : length lines ≡ length keys

follows_more : (system : List Row) (had now : Alone) (key : KeyStroke) (keys : List KeyStroke) (is : IsTurn system had (press system had.editor key))
    → Follows system (with_turn had is.turn) keys now → Follows system had (key ∷ keys) now
unfolding talk_from
follows_more system had now key keys is rest =
    let turn : Turn = is.turn in
    record {
      calls = turn.calls ++ rest.calls;
      lines = turn.line ∷ rest.lines;
      talked = ap (λ (o : Option Turn). option_map_or (λ (t : Turn). after_key t.calls t.line (talk_from system t.editor keys (drop (length t.calls) (heard_alone had.point (turn.calls ++ rest.calls)))))
          o (silence had.editor (heard_alone had.point (turn.calls ++ rest.calls)))) (is.turned rest.calls)
          ∙ ap (λ (heard : List Reply). after_key turn.calls turn.line (talk_from system turn.editor keys heard)) (rest_heard had.point turn.calls rest.calls)
          ∙ ap (after_key turn.calls turn.line) rest.talked;
      made = rest.made ∙ append_assoc had.calls turn.calls rest.calls;
      shown = rest.shown ∙ append_assoc had.lines (turn.line ∷ []) rest.lines;
      point = rest.point ∙ sym (after_both had.point turn.calls rest.calls);
      each = ap suc rest.each;
    }

follows : (system : List Row) (had : Alone) (keys : List KeyStroke) → Follows system had keys (alone_from system had keys)
unfolding talk_from alone_from
follows system had [] = record {
  calls = [];
  lines = [];
  talked = refl;
  made = sym (append-nil had.calls);
  shown = sym (append-nil had.lines);
  point = refl;
  each = refl;
}
follows system had (key ∷ keys) =
    let is = turn_alone system had (press system had.editor key) in
    follows_more system had (alone_from system (after_pressed system had (press system had.editor key)) keys) key keys is
    (subst (λ (a : Alone). Follows system (with_turn had is.turn) keys (alone_from system a keys)) (sym is.next) (follows system (with_turn had is.turn) keys))

-- from the start on
begun : Basis → Alone
begun basis = record { editor = empty_editor basis.settings; point = basis.start; calls = []; replies = []; lines = [] }

typed_follows : (basis : Basis) (keys : List KeyStroke) → Follows basis.system (begun basis) keys (typed_over basis keys)
unfolding begun
typed_follows basis keys = follows basis.system (begun basis) keys

pub typed_talk : (basis : Basis) (keys : List KeyStroke) → talk_in basis (alone_by (typed_over basis keys).calls) 1 keys
    ≡ record { calls = (typed_over basis keys).calls; lines = (typed_over basis keys).lines; editor = (typed_over basis keys).editor; replies = [] }
unfolding begun
typed_talk basis keys =
    let is = typed_follows basis keys in
    ap (λ (calls : List Call). talk_from basis.system (empty_editor basis.settings) keys (heard_alone basis.start calls)) is.made
    ∙ is.talked
    ∙ ap₂ (λ (calls : List Call) (lines : List Line). record { calls = calls; lines = lines; editor = (typed_over basis keys).editor; replies = [] }) (sym is.made) (sym is.shown)

pub typed_point : (basis : Basis) (keys : List KeyStroke) → (typed_over basis keys).point ≡ after basis.start (alone_by (typed_over basis keys).calls)
unfolding begun
typed_point basis keys =
    let is = typed_follows basis keys in is.point ∙ ap (λ (calls : List Call). after basis.start (alone_by calls)) (sym is.made)

pub typed_each : (basis : Basis) (keys : List KeyStroke) → length (typed_over basis keys).lines ≡ length keys
unfolding begun
typed_each basis keys = let is = typed_follows basis keys in ap length is.shown ∙ is.each
