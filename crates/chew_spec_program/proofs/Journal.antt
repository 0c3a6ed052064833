-- The journal of a run is legal: each context makes the calls of its talk alone, and hears what a dictionary of rows answers.
use Rattle.std.specs.Prelude.{◌≡◌, ℕ, zero, suc, ◌+◌, ◌≤◌, ◌<◌, Bool, true, false, List, [], ◌∷◌, ◌++◌, length, map, take, drop, slice_get, All, Some, cond, ◌==◌}
use Rattle.std.specs.List.{list_all}
use Rattle.std.proofs.Common.{refl, ap, sym, subst, ◌∙◌, arith, eq-eqb, eqb, eqb-true}
use Rattle.std.proofs.lemmas.Bool.{and_from, and_parts, cond-true}
use Rattle.std.proofs.lemmas.Bool.Decides.{nat_tests}
use Rattle.std.proofs.lemmas.List.{append-nil, append_assoc, map-append}
use Rattle.std.proofs.lemmas.List.Elements.{All-append, All-cons, All-head, All-nil, All-tail}
use Rattle.std.proofs.lemmas.Option.{none-some, same_Some}
use Rattle.chew_spec_syllable.specs.Row.{is_row}
use Rattle.chew_spec_dictionary.specs.Call.{Call, Look, Reply}
use Rattle.chew_spec_dictionary.specs.History.{Entry, Point, after, answer, calls_of, is_legal, is_legal_entry, is_user_call, own, replies}
use Rattle.chew_spec_dictionary.proofs.Histories.{own_joined, replies_joined}
use Rattle.chew_spec_dictionary.proofs.Invariants.{after_rows, replies_counted}
use Rattle.chew_spec_dictionary.proofs.Legal.{users-entries}
use Rattle.chew_spec_preedit.specs.PlacedRun.{PlacedRun}
use Rattle.chew_spec_preedit.proofs.Parts.{list_all-drop, list_all-take}
use Rattle.chew_spec_text.specs.KeyStroke.{KeyStroke, is_key_stroke}
use Rattle.chew_spec_text.specs.Line.{Line}
use Rattle.chew_spec_editor.specs.Answers.{AreFoundBefore, IsFound}
use Rattle.chew_spec_editor.specs.Editor.{Editor}
use Rattle.chew_spec_editor.specs.Invariant.{is_settings}
use Rattle.chew_spec_editor.specs.Talk.{Talk}
use Rattle.chew_spec_editor.proofs.Asked.{next_of, slice_get-left, slice_get-right, talk-asks, with_next}
use Rattle.chew_spec_session.specs.Context.{Basis, HandleAll, Handles, IsOfContext, calls_with_next, next_calls, talk_in}

-- rows of the system and of the dictionary at the start, and settings in their ranges
pub record StandsOnRows (basis : Basis) : Type 0 where
  pub rows : list_all is_row basis.system ≡ true
  pub settings : is_settings basis.settings ≡ true
  pub pairs : list_all is_row basis.start.dictionary.pairs ≡ true

-- an entry by a context, whose call an editor may make
record IsUsers (entry : Entry) : Type 0 where
  context : 1 ≤ entry.who
  call : is_user_call entry.call ≡ true

-- such entries are legal at any point
users-legal : (point : Point) (journal : List Entry) → All IsUsers journal → is_legal point journal ≡ true
users-legal point [] h = refl
users-legal point (entry ∷ journal) h =
    let first = All-head IsUsers entry journal h in
    let context = first.context in
    and_from (is_legal_entry point entry) _ (users-entries point entry (λ none. absurd (omega arith)) ∙ first.call)
    (users-legal (answer point entry.call).point journal (All-tail IsUsers entry journal h))

-- a number's look-ups in a legal history had as replies what a dictionary of rows finds
found-first : (point : Point) (call : Call) (run : PlacedRun) (reply : Reply) → list_all is_row point.dictionary.pairs ≡ true
    → call ≡ Look run.codes → (answer point call).reply ≡ reply → IsFound run reply
found-first point call run reply rows e f = record {
  rows = point.dictionary.pairs;
  are_rows = rows;
  is = sym f ∙ ap (λ c. (answer point c).reply) e;
}

found-step : (b : Bool) (entry : Entry) (mine : List Entry) (first : Reply) (others : List Reply) (k : ℕ) (run : PlacedRun) (reply : Reply)
    → (entry.call ≡ Look run.codes → first ≡ reply → IsFound run reply)
    → ((i : ℕ) → slice_get (map (λ (e : Entry). e.call) mine) i ≡ Some (Look run.codes) → slice_get others i ≡ Some reply → IsFound run reply)
    → slice_get (map (λ (e : Entry). e.call) (cond b (entry ∷ mine) mine)) k ≡ Some (Look run.codes)
    → slice_get (cond b (first ∷ others) others) k ≡ Some reply → IsFound run reply
found-step true entry mine first others zero run reply here later e f = here (same_Some entry.call (Look run.codes) e) (same_Some first reply f)
found-step true entry mine first others (suc k) run reply here later e f = later k e f
found-step false entry mine first others k run reply here later e f = later k e f

found-in : (point : Point) (journal : List Entry) (who k : ℕ) (run : PlacedRun) (reply : Reply) → is_legal point journal ≡ true
    → list_all is_row point.dictionary.pairs ≡ true → slice_get (calls_of journal who) k ≡ Some (Look run.codes)
    → slice_get (replies point journal who) k ≡ Some reply → IsFound run reply
found-in point [] who k run reply legal rows e f = absurd (none-some (Look run.codes) e)
found-in point (entry ∷ journal) who k run reply legal rows e f =
    let parts = and_parts (is_legal_entry point entry) (is_legal (answer point entry.call).point journal) legal in
    let next = (answer point entry.call).point in
    let kept : list_all is_row next.dictionary.pairs ≡ true = after_rows point (entry ∷ []) (and_from (is_legal_entry point entry) true parts.0 refl) rows in
    found-step (eqb entry.who who) entry (own journal who) (answer point entry.call).reply (replies next journal who) k run reply
    (found-first point entry.call run reply rows) (λ i. found-in next journal who i run reply parts.1 kept) e f

-- the calls of a number before an entry of its own, that entry's, and those behind it
calls-around : (before rest : List Entry) (entry : Entry)
    → calls_of (before ++ entry ∷ rest) entry.who ≡ calls_of before entry.who ++ (entry.call ∷ calls_of rest entry.who)
calls-around before rest entry =
    let who = entry.who in
    let mine : own (entry ∷ rest) entry.who ≡ entry ∷ own rest entry.who = cond-true (eqb who who) (entry ∷ own rest who) (own rest who) (eq-eqb who who refl) in
    ap (map (λ (e : Entry). e.call)) (own_joined before (entry ∷ rest) who ∙ ap (λ (l : List Entry). own before who ++ l) mine)
    ∙ map-append (λ (e : Entry). e.call) (own before who) (entry ∷ own rest who)

next-same : (basis : Basis) (editor : Editor) (keys : List KeyStroke) → next_calls basis editor keys ≡ next_of basis.system editor keys
next-same basis editor [] = refl
next-same basis editor (key ∷ keys) = refl

-- an entry of a context, behind legal ones
context-call : (basis : Basis) (before rest : List Entry) (entry : Entry) (keys : List KeyStroke) (count : ℕ) (lines : List Line)
    → StandsOnRows basis → list_all is_key_stroke keys ≡ true → All IsUsers before
    → Handles basis (before ++ entry ∷ rest) entry.who keys count lines → is_user_call entry.call ≡ true
context-call basis before rest entry keys count lines stands strokes earlier handles =
    let who = entry.who in
    let journal = before ++ entry ∷ rest in
    let made = calls_of before who in
    let k = length made in
    let heard = replies basis.start journal who in
    let had = replies basis.start before who in
    let talk : Talk = talk_in basis journal who (take count keys) in
    let asks = with_next basis.system talk (drop count keys) in
    let same : calls_with_next basis talk (drop count keys) ≡ asks = ap (λ (l : List Call). talk.calls ++ l) (next-same basis talk.editor (drop count keys)) in
    let around : calls_of journal who ≡ made ++ (entry.call ∷ calls_of rest who) = calls-around before rest entry in
    let all : asks ≡ made ++ ((entry.call ∷ calls_of rest who) ++ handles.next.rest) =
    sym same ∙ handles.next.joined ∙ ap (λ (l : List Call). l ++ handles.next.rest) around ∙ append_assoc made (entry.call ∷ calls_of rest who) handles.next.rest in
    let behind = (entry.call ∷ calls_of rest who) ++ handles.next.rest in
    let there : slice_get asks k ≡ Some entry.call = ap (λ (l : List Call). slice_get l k) all ∙ slice_get-right made behind 0 k (omega arith) in
    let joined : heard ≡ had ++ replies (after basis.start before) (entry ∷ rest) who = replies_joined basis.start before (entry ∷ rest) who in
    let found : AreFoundBefore k asks heard = record {
      each = λ j run reply l e f.
          let at : slice_get made j ≡ Some (Look run.codes) = sym (slice_get-left made behind j l) ∙ (sym (ap (λ (c : List Call). slice_get c j) all) ∙ e) in
          let within : j < length had = subst (λ (n : ℕ). j < n) (sym (replies_counted basis.start before who)) l in
          let reply_there : slice_get had j ≡ Some reply =
          sym (slice_get-left had (replies (after basis.start before) (entry ∷ rest) who) j within) ∙ (sym (ap (λ (r : List Reply). slice_get r j) joined) ∙ f) in
          found-in basis.start before who j run reply (users-legal basis.start before earlier) stands.pairs at reply_there;
    } in
    talk-asks basis.system basis.settings (take count keys) (drop count keys) heard k entry.call stands.rows stands.settings
    (list_all-take is_key_stroke count keys strokes) (list_all-drop is_key_stroke count keys strokes) found there

-- what follows from what is known of the first number where this is it, and else from its being a later one
first-or-later : (P : ℕ → Type 0) (first who : ℕ) (Q : Type 0) → first ≤ who → P first → (P who → Q) → (suc first ≤ who → Q) → Q
first-or-later P first who Q from here mine later = by_number (first == who) refl
  where
    by_number : (b : Bool) → (first == who) ≡ b → Q
    by_number true e = mine (subst P (eqb-true first who e) here)
    by_number false e = later (grind (arith, nat_tests))

-- the same, among all contexts
contexts-call : (basis : Basis) (before rest : List Entry) (entry : Entry) (first : ℕ) (contexts : List (List KeyStroke)) (counts : List ℕ) (lines : List (List Line))
    → StandsOnRows basis → list_all (list_all is_key_stroke) contexts ≡ true → All IsUsers before → HandleAll basis (before ++ entry ∷ rest) first contexts counts lines
    → first ≤ entry.who → entry.who < first + length contexts → is_user_call entry.call ≡ true
contexts-call basis before rest entry first [] [] [] stands strokes earlier handle from to = absurd (omega arith)
contexts-call basis before rest entry first (keys ∷ contexts) (count ∷ counts) (text ∷ lines) stands strokes earlier handle from to =
    let parts = and_parts (list_all is_key_stroke keys) (list_all (list_all is_key_stroke) contexts) strokes in
    first-or-later (λ n. Handles basis (before ++ entry ∷ rest) n keys count text) first entry.who (is_user_call entry.call ≡ true) from handle.0
    (λ mine. context-call basis before rest entry keys count text stands parts.0 earlier mine)
    (λ later. contexts-call basis before rest entry (suc first) contexts counts lines stands parts.1 earlier handle.1 later (omega arith))
contexts-call basis before rest entry first _ _ _ stands strokes earlier handle from to = absurd handle

-- one entry behind another
module _ (basis : Basis) (journal : List Entry) (contexts : List (List KeyStroke)) (counts : List ℕ) (lines : List (List Line)) (stands : StandsOnRows basis)
    (strokes : list_all (list_all is_key_stroke) contexts ≡ true) (handle : HandleAll basis journal 1 contexts counts lines) where
  all-users : (before rest : List Entry) → journal ≡ before ++ rest → All IsUsers before → All (IsOfContext (length contexts)) rest → All IsUsers journal
  all-users before [] e earlier numbers = subst (All IsUsers) (sym (append-nil before) ∙ sym e) earlier
  all-users before (entry ∷ rest) e earlier numbers =
      let number = All-head (IsOfContext (length contexts)) entry rest numbers in
      let from = number.from_one in
      let to = number.within in
      let here : HandleAll basis (before ++ entry ∷ rest) 1 contexts counts lines = subst (λ (j : List Entry). HandleAll basis j 1 contexts counts lines) e handle in
      let one : IsUsers entry = record { context = from; call = contexts-call basis before rest entry 1 contexts counts lines stands strokes earlier here from (omega arith) } in
      all-users (before ++ entry ∷ []) rest (e ∙ sym (append_assoc before (entry ∷ []) rest))
      (All-append IsUsers before (entry ∷ []) earlier (All-cons IsUsers entry [] one (All-nil IsUsers)))
      (All-tail (IsOfContext (length contexts)) entry rest numbers)

pub journal-legal : (basis : Basis) (journal : List Entry) (contexts : List (List KeyStroke)) (counts : List ℕ) (lines : List (List Line))
    → StandsOnRows basis → list_all (list_all is_key_stroke) contexts ≡ true → HandleAll basis journal 1 contexts counts lines
    → All (IsOfContext (length contexts)) journal → is_legal basis.start journal ≡ true
journal-legal basis journal contexts counts lines stands strokes handle numbers =
    users-legal basis.start journal (all-users basis journal contexts counts lines stands strokes handle [] journal refl (All-nil IsUsers) numbers)
