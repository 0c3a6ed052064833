-- What a context handled: by the whole history as by what it has seen, no more than its keys, and of all keys all calls.
use Rattle.std.specs.Prelude.{◌≡◌, ℕ, ◌≤◌, List, [], ◌++◌, drop, length, take}
use Rattle.std.proofs.Common.{ap, subst, sym, ◌∙◌, arith}
use Rattle.std.proofs.lemmas.List.{append-nil, length-append, length-take, take_all, drop_all}
use Rattle.chew_spec_dictionary.specs.Call.{Call, Reply}
use Rattle.chew_spec_dictionary.specs.History.{Entry, calls_of, replies}
use Rattle.chew_spec_dictionary.specs.Growth.{IsFront, Made}
use Rattle.chew_spec_dictionary.proofs.Growing.{grown-calls, grown-replies}
use Rattle.chew_spec_cell.specs.Sight.{HasSeen}
use Rattle.chew_spec_cell.proofs.Fronts.{nothing_long}
use Rattle.chew_spec_editor.specs.Editor.{empty_editor}
use Rattle.chew_spec_editor.specs.Talk.{talk}
use Rattle.chew_spec_editor.proofs.Talks.{few_lines}
use Rattle.chew_spec_text.specs.KeyStroke.{KeyStroke}
use Rattle.chew_spec_text.specs.Line.{Line}
use Rattle.chew_spec_session.specs.Context.{Basis, Handles, calls_with_next, talk_in}
use Rattle.chew_session.proofs.Calling.{made-seen}

-- two lists of which each is a front of the other
front-both : {X : Type 0} (xs ys : List X) → IsFront xs ys → IsFront ys xs → ys ≡ xs
front-both xs ys f g =
    let a = ap length f.joined ∙ length-append xs f.rest in
    let b = ap length g.joined ∙ length-append ys g.rest in
    f.joined ∙ ap (λ l. xs ++ l) (nothing_long f.rest (omega arith)) ∙ append-nil xs

pub handles-later : (basis : Basis) (who : ℕ) (keys : List KeyStroke) (count : ℕ) (lines : List Line) (seen journal : List Entry) → HasSeen who seen journal
    → Handles basis seen who keys count lines → Handles basis journal who keys count lines
handles-later basis who keys count lines seen journal has handles =
    let made : Made basis.start seen journal who [] [] = made-seen basis.start who seen journal has in
    let heard : replies basis.start seen who ≡ replies basis.start journal who = sym (grown-replies basis.start seen journal who [] [] made ∙ append-nil (replies basis.start seen who)) in
    let calls : calls_of seen who ≡ calls_of journal who = sym (grown-calls basis.start seen journal who [] [] made ∙ append-nil (calls_of seen who)) in
    record {
      each = handles.each;
      talked = handles.talked ∙ ap (λ (r : List Reply). (talk basis.system basis.settings (take count keys) r).lines) heard;
      made = subst (λ (r : List Reply). IsFront (talk basis.system basis.settings (take count keys) r).calls (calls_of journal who)) heard
          (subst (λ (c : List Call). IsFront (talk basis.system basis.settings (take count keys) (replies basis.start seen who)).calls c) calls handles.made);
      next = subst (λ (r : List Reply). IsFront (calls_of journal who) (calls_with_next basis (talk basis.system basis.settings (take count keys) r) (drop count keys))) heard
          (subst (λ (c : List Call). IsFront c (calls_with_next basis (talk basis.system basis.settings (take count keys) (replies basis.start seen who)) (drop count keys))) calls handles.next);
    }

pub handles-within : (basis : Basis) (who : ℕ) (keys : List KeyStroke) (count : ℕ) (lines : List Line) (journal : List Entry)
    → Handles basis journal who keys count lines → count ≤ length keys
handles-within basis who keys count lines journal handles =
    let few = few_lines basis.system (empty_editor basis.settings) (take count keys) (replies basis.start journal who) in
    let same = ap length handles.talked in
    let each = handles.each in
    let taken = length-take count keys in
    omega arith

pub handles-whole : (basis : Basis) (who : ℕ) (keys : List KeyStroke) (lines : List Line) (journal : List Entry)
    → Handles basis journal who keys (length keys) lines → calls_of journal who ≡ (talk_in basis journal who keys).calls
handles-whole basis who keys lines journal handles =
    let whole = talk_in basis journal who (take (length keys) keys) in
    let ends : calls_with_next basis whole (drop (length keys) keys) ≡ whole.calls =
    ap (λ (l : List KeyStroke). calls_with_next basis whole l) (drop_all (length keys) keys (omega arith)) ∙ append-nil whole.calls in
    front-both whole.calls (calls_of journal who) handles.made (subst (λ (l : List Call). IsFront (calls_of journal who) l) ends handles.next)
    ∙ ap (λ (l : List KeyStroke). (talk_in basis journal who l).calls) (take_all (length keys) keys (omega arith))
