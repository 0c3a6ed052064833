-- Replies that a dictionary gave, each at its place, are the answers to a key's calls.
use Rattle.std.proofs.Common.{◌≡◌, ◌≤◌, ◌∙◌, ℕ, zero, suc, List, [], ◌∷◌, Some, ap, arith, length, map, refl, slice_get, subst, sym, take, true}
use Rattle.std.specs.List.{AllZip, list_all}
use Rattle.std.proofs.lemmas.Bool.{and_from}
use Rattle.std.proofs.lemmas.List.{take_all}
use Rattle.std.proofs.lemmas.Option.{none-some, same_Some}
use Rattle.chew_spec_syllable.specs.Row.{is_row}
use Rattle.chew_spec_dictionary.specs.Call as spec
use Rattle.chew_spec_dictionary.specs.Call.{Look, is_proper}
use Rattle.chew_spec_dictionary.specs.History.{Point, answer, is_user_call}
use Rattle.chew_spec_dictionary.proofs.Legal.{user-proper}
use Rattle.chew_spec_preedit.specs.PlacedRun.{PlacedRun}
use Rattle.chew_spec_editor.specs.Answers.{AreAnswers, AreFoundBefore, IsFound}
use Rattle.chew_spec_editor.specs.Pending.{Pending, calls_of}
use Rattle.chew_spec_editor.proofs.Answered.{point-rows}
use Rattle.chew_spec_editor.proofs.Asked.{answers-found}
use Rattle.chew_plain.specs.Call.{call_of, reply_of}
use Rattle.chew_plain.specs.declared.call.Call.{Call}
use Rattle.chew_plain.specs.declared.reply.Reply.{Reply}
use Rattle.chew_replay.specs.Reply.{IsFoundBy}

-- a call's reply, at a point whose rows are rows
pub found_by : (point : Point) (call : spec.Call) (reply : spec.Reply) → list_all is_row point.dictionary.pairs ≡ true
    → reply ≡ (answer point call).reply → IsFoundBy call reply
found_by point call reply rows e = record {
  found = λ run f. record {
    rows = point.dictionary.pairs;
    are_rows = rows;
    is = e ∙ ap (λ c. (answer point c).reply) f;
  };
}

-- a call of a user leaves rows
pub rows_stay : (point : Point) (call : spec.Call) → is_user_call call ≡ true → list_all is_row point.dictionary.pairs ≡ true
    → list_all is_row (answer point call).point.dictionary.pairs ≡ true
rows_stay point call user rows = point-rows point (call ∷ []) (and_from (is_proper call) true (user-proper call user) refl) rows

-- one reply a call
same-length : (calls : List Call) (replies : List Reply) → AllZip (λ call reply. IsFoundBy (call_of call) (reply_of reply)) calls replies
    → length (map reply_of replies) ≡ length (map call_of calls)
same-length [] [] h = refl
same-length [] (reply ∷ replies) h = absurd h
same-length (call ∷ calls) [] h = absurd h
same-length (call ∷ calls) (reply ∷ replies) h = ap suc (same-length calls replies h.1)

-- the reply at a place is found by the call at it
found-at : (calls : List Call) (replies : List Reply) (k : ℕ) (run : PlacedRun) (reply : spec.Reply)
    → AllZip (λ call reply. IsFoundBy (call_of call) (reply_of reply)) calls replies
    → slice_get (map call_of calls) k ≡ Some (Look run.codes) → slice_get (map reply_of replies) k ≡ Some reply → IsFound run reply
found-at [] replies k run reply h e f = absurd (none-some (Look run.codes) e)
found-at (call ∷ calls) [] k run reply h e f = absurd h
found-at (call ∷ calls) (first ∷ replies) zero run reply h e f =
    subst (IsFound run) (same_Some (reply_of first) reply f) (h.0.found run (same_Some (call_of call) (Look run.codes) e))
found-at (call ∷ calls) (first ∷ replies) (suc k) run reply h e f = found-at calls replies k run reply h.1 e f

-- the replies to a key's calls are its answers
pub answers-told : (pending : Pending) (calls : List Call) (replies : List Reply) → map call_of calls ≡ calls_of pending
    → AllZip (λ call reply. IsFoundBy (call_of call) (reply_of reply)) calls replies → AreAnswers pending (map reply_of replies)
answers-told pending calls replies same h =
    let asked = calls_of pending in
    let heard = map reply_of replies in
    let each : length heard ≡ length asked = same-length calls replies h ∙ ap length same in
    let found : AreFoundBefore (length asked) asked heard = record {
      each = λ k run reply within e f. found-at calls replies k run reply h (ap (λ (l : List spec.Call). slice_get l k) same ∙ e) f;
    } in
    subst (AreAnswers pending) (take_all (length asked) heard (omega arith)) (answers-found pending heard (omega arith) found)
