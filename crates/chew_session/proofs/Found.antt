-- What a number hears of a key's calls in a legal history are the answers to them.
use Rattle.std.specs.Prelude.{◌≡◌, ℕ, zero, suc, Bool, true, false, List, [], ◌∷◌, length, map, slice_get, Some, cond}
use Rattle.std.specs.List.{list_all}
use Rattle.std.proofs.Common.{refl, ap, sym, ◌∙◌, subst, arith, eqb}
use Rattle.std.proofs.lemmas.Bool.{and_from, and_parts}
use Rattle.std.proofs.lemmas.List.{take_all}
use Rattle.std.proofs.lemmas.Option.{none-some, same_Some}
use Rattle.chew_spec_syllable.specs.Row.{is_row}
use Rattle.chew_spec_dictionary.specs.Call.{Call, Look, Reply}
use Rattle.chew_spec_dictionary.specs.History.{Entry, Point, after, answer, calls_of as calls_in, is_legal, is_legal_entry, own, replies}
use Rattle.chew_spec_dictionary.specs.Growth.{Made}
use Rattle.chew_spec_dictionary.proofs.Growing.{grown-each}
use Rattle.chew_spec_dictionary.proofs.Histories.{legal_joined}
use Rattle.chew_spec_dictionary.proofs.Invariants.{after_rows}
use Rattle.chew_spec_preedit.specs.PlacedRun.{PlacedRun}
use Rattle.chew_spec_editor.specs.Answers.{AreAnswers, AreFoundBefore, IsFound}
use Rattle.chew_spec_editor.specs.Pending.{Pending, calls_of}
use Rattle.chew_spec_editor.proofs.Asked.{answers-found}

-- a look-up had as its reply what a dictionary of rows finds
found-first : (point : Point) (call : Call) (run : PlacedRun) (reply : Reply) → list_all is_row point.dictionary.pairs ≡ true
    → call ≡ Look run.codes → (answer point call).reply ≡ reply → IsFound run reply
found-first point call run reply rows e f = record {
  rows = point.dictionary.pairs;
  are_rows = rows;
  is = sym f ∙ ap (λ c. (answer point c).reply) e;
}

found-step : (b : Bool) (entry : Entry) (mine : List Entry) (first : Reply) (others : List Reply) (k : ℕ) (run : PlacedRun) (reply : Reply)
    → (entry.call ≡ Look run.codes → first ≡ reply → IsFound run reply)
    → ((i : ℕ) → slice_get (map (λ (e : Entry). e.call) mine) i ≡ Some (Look run.codes) → slice_get others i ≡ Some reply → IsFound run reply)
    → slice_get (map (λ (e : Entry). e.call) (cond b (entry ∷ mine) mine)) k ≡ Some (Look run.codes)
    → slice_get (cond b (first ∷ others) others) k ≡ Some reply → IsFound run reply
found-step true entry mine first others zero run reply here later e f = here (same_Some entry.call (Look run.codes) e) (same_Some first reply f)
found-step true entry mine first others (suc k) run reply here later e f = later k e f
found-step false entry mine first others k run reply here later e f = later k e f

found-in : (point : Point) (journal : List Entry) (who k : ℕ) (run : PlacedRun) (reply : Reply) → is_legal point journal ≡ true
    → list_all is_row point.dictionary.pairs ≡ true → slice_get (calls_in journal who) k ≡ Some (Look run.codes)
    → slice_get (replies point journal who) k ≡ Some reply → IsFound run reply
found-in point [] who k run reply legal rows e f = absurd (none-some (Look run.codes) e)
found-in point (entry ∷ journal) who k run reply legal rows e f =
    let parts = and_parts (is_legal_entry point entry) (is_legal (answer point entry.call).point journal) legal in
    let next = (answer point entry.call).point in
    let kept : list_all is_row next.dictionary.pairs ≡ true = after_rows point (entry ∷ []) (and_from (is_legal_entry point entry) true parts.0 refl) rows in
    found-step (eqb entry.who who) entry (own journal who) (answer point entry.call).reply (replies next journal who) k run reply
    (found-first point entry.call run reply rows) (λ i. found-in next journal who i run reply parts.1 kept) e f

-- the replies to a key's calls, made while a history grew that is legal then, and that began with rows
pub answers-made : (start : Point) (who : ℕ) (pending : Pending) (before now : List Entry) (heard : List Reply) → list_all is_row start.dictionary.pairs ≡ true
    → is_legal start now ≡ true → Made start before now who (calls_of pending) heard → AreAnswers pending heard
answers-made start who pending before now heard rows legal made =
    let parts = and_parts (is_legal start before) (is_legal (after start before) made.more) (sym (legal_joined start before made.more) ∙ (sym (ap (is_legal start) made.joined) ∙ legal)) in
    let had : list_all is_row (after start before).dictionary.pairs ≡ true = after_rows start before parts.0 rows in
    let each : length heard ≡ length (calls_of pending) = grown-each start before now who (calls_of pending) heard made in
    let found : AreFoundBefore (length (calls_of pending)) (calls_of pending) heard = record {
      each = λ k run reply within e f.
          found-in (after start before) made.more who k run reply parts.1 had
          (ap (λ (l : List Call). slice_get l k) made.calls ∙ e) (ap (λ (l : List Reply). slice_get l k) made.replies ∙ f);
    } in
    subst (AreAnswers pending) (take_all (length (calls_of pending)) heard (omega arith)) (answers-found pending heard (omega arith) found)
