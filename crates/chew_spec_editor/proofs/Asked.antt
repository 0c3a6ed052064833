-- Each call of a talk is one that an editor may make, where the replies before it are what a dictionary finds.
use Rattle.std.specs.Prelude.{◌≡◌, ◌⊎◌, ◌≤◌, ◌<◌, ◌+◌, ℕ, zero, suc, Bool, true, List, [], ◌∷◌, ◌++◌, drop, length, map, slice_get, take, Option, Some, None}
use Rattle.std.specs.Option.{option_map}
use Rattle.std.specs.List.{list_all}
use Rattle.std.proofs.Common.{refl, ap, sym, subst, inl, inr, ◌∙◌, ⊎_elim, arith}
use Rattle.std.proofs.lemmas.Bool.{and_parts}
use Rattle.std.proofs.lemmas.List.{append_assoc, length-take-le}
use Rattle.std.proofs.lemmas.Option.{none-some, same_Some, slice_get-map, slice_get_within}
use Rattle.chew_spec_syllable.specs.Row.{Row, is_row}
use Rattle.chew_spec_dictionary.specs.Call.{Call, Look, Reply}
use Rattle.chew_spec_dictionary.specs.History.{is_user_call}
use Rattle.chew_spec_preedit.specs.PlacedRun.{PlacedRun}
use Rattle.chew_spec_preedit.proofs.Places.{slice_get-drop}
use Rattle.chew_spec_text.specs.KeyStroke.{KeyStroke, is_key_stroke}
use Rattle.chew_spec_text.specs.Line.{Line}
use Rattle.chew_spec_editor.specs.Answers.{AreAnswers, AreFoundBefore}
use Rattle.chew_spec_editor.specs.Editor.{Editor, empty_editor}
use Rattle.chew_spec_editor.specs.Finish.{finish}
use Rattle.chew_spec_editor.specs.Invariant.{HasSingles, is_editor, is_pending, is_settings}
use Rattle.chew_spec_editor.specs.Keys.{calls_asked, press}
use Rattle.chew_spec_editor.specs.Pending.{Pending, calls_of, runs_asked}
use Rattle.chew_spec_editor.specs.Press.{Pressed, Done, Ask}
use Rattle.chew_spec_editor.specs.Settings.{Settings}
use Rattle.chew_spec_editor.specs.Talk.{Talk, Turn, talk, talk_from, turn_after, turn_of}
use Rattle.chew_spec_editor.proofs.Asking.{user-calls}
use Rattle.chew_spec_editor.proofs.Finished.{is_editor-finish}
use Rattle.chew_spec_editor.proofs.Keeping.{is_editor-done, is_editor-empty, is_pending-ask}
use Rattle.chew_spec_editor.proofs.Singles.{HasSingles-ask, HasSingles-done}
use Rattle.chew_spec_editor.proofs.Talks.{talk_behind, talk_with}
use Rattle.chew_spec_editor.proofs.Turns.{turn_of-calls, turn_of-enough}

-- what stands at a place of two lists
pub slice_get-left : {X : Type 0} (xs ys : List X) (k : ℕ) → k < length xs → slice_get (xs ++ ys) k ≡ slice_get xs k
slice_get-left [] ys k l = absurd (omega arith)
slice_get-left (x ∷ xs) ys zero l = refl
slice_get-left (x ∷ xs) ys (suc k) l = slice_get-left xs ys k (omega arith)

pub slice_get-right : {X : Type 0} (xs ys : List X) (k i : ℕ) → i ≡ length xs + k → slice_get (xs ++ ys) i ≡ slice_get ys k
slice_get-right [] ys k i e = ap (slice_get ys) (omega arith)
slice_get-right (x ∷ xs) ys k zero e = absurd (omega arith)
slice_get-right (x ∷ xs) ys k (suc i) e = slice_get-right xs ys k i (omega arith)

-- it stands in the first, or at a place of the second
record IsBehind {X : Type 0} (xs ys : List X) (k : ℕ) (x : X) : Type 0 where
  pub at : ℕ
  pub place : k ≡ length xs + at
  pub there : slice_get ys at ≡ Some x

record IsBefore {X : Type 0} (xs : List X) (k : ℕ) (x : X) : Type 0 where
  pub place : k < length xs
  pub there : slice_get xs k ≡ Some x

either-of : {X : Type 0} (xs ys : List X) (k : ℕ) (x : X) → slice_get (xs ++ ys) k ≡ Some x → IsBefore xs k x ⊎ IsBehind xs ys k x
either-of [] ys k x e = inr (record { at = k; place = omega arith; there = e })
either-of (y ∷ xs) ys zero x e = inl (record { place = omega arith; there = e })
either-of {X} (y ∷ xs) ys (suc k) x e =
    ⊎_elim (λ (b : IsBefore xs k x). let l = b.place in inl (record { place = omega arith; there = b.there }))
    (λ (b : IsBehind xs ys k x). let l = b.place in inr (record { at = b.at; place = omega arith; there = b.there })) (either-of xs ys k x e)

-- what stands at a place passes what all pass
pub passes-at : {X : Type 0} (p : X → Bool) (xs : List X) (k : ℕ) (x : X) → list_all p xs ≡ true → slice_get xs k ≡ Some x → p x ≡ true
passes-at p [] k x h e = absurd (none-some x e)
passes-at p (y ∷ xs) zero x h e = subst (λ z. p z ≡ true) (same_Some y x e) ((and_parts (p y) (list_all p xs) h).0)
passes-at p (y ∷ xs) (suc k) x h e = passes-at p xs k x ((and_parts (p y) (list_all p xs) h).1) e

-- an editor whose syllables have rows by themselves
pub record MayAsk (system : List Row) (editor : Editor) : Type 0 where
  pub is : is_editor editor ≡ true
  pub singles : HasSingles system editor.buffer.cells

pub may-empty : (system : List Row) (settings : Settings) → is_settings settings ≡ true → MayAsk system (empty_editor settings)
may-empty system settings h = record {
  is = is_editor-empty settings h;
  singles = record { each = λ code among. absurd (let within = among.1 in omega arith) };
}

-- the calls of a key
pressed-asks : (pressed : Pressed) → ((pending : Pending) → pressed ≡ Ask pending → list_all is_user_call (calls_of pending) ≡ true)
    → list_all is_user_call (calls_asked pressed) ≡ true
pressed-asks (Done editor line) h = refl
pressed-asks (Ask pending) h = h pending refl

pub press-asks : (system : List Row) (editor : Editor) (key : KeyStroke) → list_all is_row system ≡ true → is_editor editor ≡ true → is_key_stroke key ≡ true
    → list_all is_user_call (calls_asked (press system editor key)) ≡ true
press-asks system editor key rows is k = pressed-asks (press system editor key) (λ pending d. user-calls system editor key pending rows is k d)

-- replies to all calls of a key that are found are its answers
pub answers-found : (pending : Pending) (replies : List Reply) → length (calls_of pending) ≤ length replies
    → AreFoundBefore (length (calls_of pending)) (calls_of pending) replies → AreAnswers pending (take (length (calls_of pending)) replies)
answers-found pending replies enough found =
    let looks = map (λ (run : PlacedRun). Look run.codes) (runs_asked pending) in
    let heard = take (length (calls_of pending)) replies in
    record {
      one_each = length-take-le (length (calls_of pending)) replies enough;
      found = λ k run reply e f.
          let at = length pending.changes + k in
          let there : slice_get (calls_of pending) at ≡ Some (Look run.codes) =
          slice_get-right pending.changes looks k at refl
          ∙ (slice_get-map (λ (r : PlacedRun). Look r.codes) (runs_asked pending) k ∙ ap (option_map (λ (r : PlacedRun). Look r.codes)) e) in
          let within = slice_get_within (calls_of pending) at (Look run.codes) there in
          found.each at run reply within there
          (sym (taken (length (calls_of pending)) replies at within) ∙ (sym (slice_get-drop heard (length pending.changes) k at refl) ∙ f));
    }
  where
    taken : {X : Type 0} (n : ℕ) (xs : List X) (k : ℕ) → k < n → slice_get (take n xs) k ≡ slice_get xs k
    taken zero xs k l = absurd (omega arith)
    taken (suc n) [] k l = refl
    taken (suc n) (x ∷ xs) zero l = refl
    taken (suc n) (x ∷ xs) (suc k) l = taken n xs k (omega arith)

-- its turn leaves an editor
turn_after-may : (system : List Row) (pressed : Pressed) (replies : List Reply) (turn : Turn) → list_all is_row system ≡ true
    → ((editor : Editor) (line : Line) → pressed ≡ Done editor line → MayAsk system editor)
    → ((pending : Pending) → pressed ≡ Ask pending → is_pending pending ≡ true)
    → ((pending : Pending) → pressed ≡ Ask pending → HasSingles system pending.editor.buffer.cells)
    → ((pending : Pending) → pressed ≡ Ask pending → AreAnswers pending (take (length (calls_of pending)) replies))
    → turn_after system pressed replies ≡ Some turn → MayAsk system turn.editor
unfolding finish
turn_after-may system (Done editor line) replies turn rows done asked singles answers h =
    let same : editor ≡ turn.editor = cc in subst (MayAsk system) same (done editor line refl)
turn_after-may system (Ask pending) replies turn rows done asked singles answers h =
    let heard = take (length (calls_of pending)) replies in
    let same : (finish system pending heard).editor ≡ turn.editor = grind arith in
    let may : MayAsk system (finish system pending heard).editor = record {
      is = is_editor-finish system pending heard rows (singles pending refl) (asked pending refl) (answers pending refl);
      singles = singles pending refl;
    } in
    subst (MayAsk system) same may

pub turn_of-may : (system : List Row) (editor : Editor) (key : KeyStroke) (replies : List Reply) (turn : Turn) → list_all is_row system ≡ true → is_key_stroke key ≡ true
    → MayAsk system editor → AreFoundBefore (length turn.calls) turn.calls replies → turn_of system editor key replies ≡ Some turn → MayAsk system turn.editor
turn_of-may system editor key replies turn rows k may found h =
    let calls = turn_of-calls system editor key replies turn h in
    let enough = turn_of-enough system editor key replies turn h in
    turn_after-may system (press system editor key) replies turn rows
    (λ after line d. record { is = is_editor-done system editor after key line may.is k d; singles = HasSingles-done system editor after key line may.singles d })
    (λ pending d. is_pending-ask system editor key pending may.is k d)
    (λ pending d. HasSingles-ask system editor key pending may.singles d)
    (λ pending d.
    let same : turn.calls ≡ calls_of pending = calls ∙ ap calls_asked d in
    answers-found pending replies (subst (λ (c : List Call). length c ≤ length replies) same enough)
    (subst (λ (c : List Call). AreFoundBefore (length c) c replies) same found)) h

-- the calls of a talk, and those that the first of some keys asks then
abbrev pub next_of : List Row → Editor → List KeyStroke → List Call
next_of system editor [] = []
next_of system editor (key ∷ keys) = calls_asked (press system editor key)

abbrev pub with_next : List Row → Talk → List KeyStroke → List Call
with_next system talk keys = talk.calls ++ next_of system talk.editor keys

next-asks : (system : List Row) (editor : Editor) (keys : List KeyStroke) → list_all is_row system ≡ true → MayAsk system editor → list_all is_key_stroke keys ≡ true
    → list_all is_user_call (next_of system editor keys) ≡ true
next-asks system editor [] rows may k = refl
next-asks system editor (key ∷ keys) rows may k = press-asks system editor key rows may.is ((and_parts (is_key_stroke key) (list_all is_key_stroke keys) k).0)

-- each call of such a list is one that an editor may make, where those before it were found
abbrev Talked : List Call → List Reply → Type 0
Talked calls replies = (k : ℕ) (call : Call) → AreFoundBefore k calls replies → slice_get calls k ≡ Some call → is_user_call call ≡ true

pub before-first : (calls more : List Call) (replies : List Reply) (k : ℕ) → length calls ≤ k → AreFoundBefore k (calls ++ more) replies → AreFoundBefore (length calls) calls replies
before-first calls more replies k l found =
    record { each = λ i run reply m e f. found.each i run reply (omega arith) (slice_get-left calls more i m ∙ e) f }

pub before-rest : (calls more : List Call) (replies : List Reply) (k j : ℕ) → k ≡ length calls + j → AreFoundBefore k (calls ++ more) replies
    → AreFoundBefore j more (drop (length calls) replies)
before-rest calls more replies k j is found =
    record {
      each = λ i run reply m e f.
          let at = length calls + i in
          found.each at run reply (omega arith) (slice_get-right calls more i at refl ∙ e) (sym (slice_get-drop replies (length calls) i at refl) ∙ f);
    }

talked-both : (calls more : List Call) (replies : List Reply) → list_all is_user_call calls ≡ true
    → (AreFoundBefore (length calls) calls replies → Talked more (drop (length calls) replies)) → Talked (calls ++ more) replies
talked-both calls more replies first rest k call found e =
    ⊎_elim (λ (b : IsBefore calls k call). passes-at is_user_call calls k call first b.there)
    (λ (b : IsBehind calls more k call).
    let is = b.place in
    rest (before-first calls more replies k (omega arith) found) b.at call (before-rest calls more replies k b.at b.place found) b.there)
    (either-of calls more k call e)

talked-step : (system : List Row) (editor : Editor) (key : KeyStroke) (keys rest : List KeyStroke) (replies : List Reply) (turn : Option Turn)
    → list_all is_row system ≡ true → MayAsk system editor → is_key_stroke key ≡ true → list_all is_key_stroke rest ≡ true
    → turn_of system editor key replies ≡ turn
    → ((t : Turn) → MayAsk system t.editor → Talked (with_next system (talk_behind system keys replies t) rest) (drop (length t.calls) replies))
    → Talked (with_next system (talk_with system editor keys replies turn) rest) replies
talked-step system editor key keys rest replies None rows may k r is h =
    λ place call found e. passes-at is_user_call (next_of system editor rest) place call (next-asks system editor rest rows may r) e
talked-step system editor key keys rest replies (Some t) rows may k r is h =
    let behind = talk_behind system keys replies t in
    let more = with_next system behind rest in
    let calls : list_all is_user_call t.calls ≡ true =
    subst (λ (c : List Call). list_all is_user_call c ≡ true) (sym (turn_of-calls system editor key replies t is)) (press-asks system editor key rows may.is k) in
    subst (λ (c : List Call). Talked c replies) (sym (append_assoc t.calls behind.calls (next_of system behind.editor rest)))
    (talked-both t.calls more replies calls (λ found. h t (turn_of-may system editor key replies t rows k may found is)))

talked : (system : List Row) (editor : Editor) (keys rest : List KeyStroke) (replies : List Reply) → list_all is_row system ≡ true → MayAsk system editor
    → list_all is_key_stroke keys ≡ true → list_all is_key_stroke rest ≡ true → Talked (with_next system (talk_from system editor keys replies) rest) replies
unfolding talk_from
talked system editor [] rest replies rows may k r =
    λ place call found e. passes-at is_user_call (next_of system editor rest) place call (next-asks system editor rest rows may r) e
talked system editor (key ∷ keys) rest replies rows may k r =
    let parts = and_parts (is_key_stroke key) (list_all is_key_stroke keys) k in
    talked-step system editor key keys rest replies (turn_of system editor key replies) rows may parts.0 r refl
    (λ t m. talked system t.editor keys rest (drop (length t.calls) replies) rows m parts.1 r)

pub talk-asks : (system : List Row) (settings : Settings) (keys rest : List KeyStroke) (replies : List Reply) (k : ℕ) (call : Call) → list_all is_row system ≡ true
    → is_settings settings ≡ true → list_all is_key_stroke keys ≡ true → list_all is_key_stroke rest ≡ true
    → AreFoundBefore k (with_next system (talk system settings keys replies) rest) replies
    → slice_get (with_next system (talk system settings keys replies) rest) k ≡ Some call → is_user_call call ≡ true
talk-asks system settings keys rest replies k call rows h ks rs found e =
    talked system (empty_editor settings) keys rest replies rows (may-empty system settings h) ks rs k call found e
