-- What contexts handled.
use Rattle.std.specs.Prelude.{◌≡◌, ℕ, suc, ◌≤◌, List, [], ◌∷◌, ◌++◌, length, take, drop}
use Rattle.std.proofs.Common.{refl, ap, subst, ◌∙◌, arith}
use Rattle.std.proofs.lemmas.List.{append-nil, drop_all, length-append, length-take, take_all}
use Rattle.chew_spec_dictionary.specs.Call.{Call}
use Rattle.chew_spec_dictionary.specs.History.{Entry, calls_of, replies}
use Rattle.chew_spec_text.specs.KeyStroke.{KeyStroke}
use Rattle.chew_spec_text.specs.Line.{Line}
use Rattle.chew_spec_editor.specs.Editor.{empty_editor}
use Rattle.chew_spec_editor.specs.Talk.{Talk}
use Rattle.chew_spec_editor.proofs.Talks.{few_lines}
use Rattle.chew_spec_dictionary.specs.Growth.{IsFront}
use Rattle.chew_spec_session.specs.Context.{Basis, HandleAll, Handles, calls_with_next, talk_in}

-- two lists of which each is a front of the other are the same
none-behind : (one other : List Call) → length (one ++ other) ≤ length one → other ≡ []
none-behind one [] h = refl
none-behind one (call ∷ other) h = absurd (omega (arith, length-append one (call ∷ other)))

fronts-same : (one other : List Call) → IsFront one other → IsFront other one → other ≡ one
fronts-same one other first second =
    let longer : length other ≡ length (one ++ first.rest) = ap length first.joined in
    let shorter : length one ≡ length (other ++ second.rest) = ap length second.joined in
    let none : first.rest ≡ [] = none-behind one first.rest (omega (arith, length-append other second.rest)) in
    first.joined ∙ ap (λ rest. one ++ rest) none ∙ append-nil one

pub handles-within : (basis : Basis) (journal : List Entry) (who : ℕ) (keys : List KeyStroke) (count : ℕ) (lines : List Line)
    → Handles basis journal who keys count lines → count ≤ length keys
handles-within basis journal who keys count lines handles =
    let some = few_lines basis.system (empty_editor basis.settings) (take count keys) (replies basis.start journal who) in
    omega (arith, some, ap length handles.talked, handles.each, length-take count keys)

pub handles-all : (basis : Basis) (journal : List Entry) (who : ℕ) (keys : List KeyStroke) (lines : List Line)
    → Handles basis journal who keys (length keys) lines → calls_of journal who ≡ (talk_in basis journal who keys).calls
handles-all basis journal who keys lines handles =
    let whole : take (length keys) keys ≡ keys = take_all (length keys) keys (omega arith) in
    let none : drop (length keys) keys ≡ [] = drop_all (length keys) keys (omega arith) in
    let talk : Talk = talk_in basis journal who (take (length keys) keys) in
    let next : IsFront (calls_of journal who) talk.calls =
    subst (IsFront (calls_of journal who)) (ap (calls_with_next basis talk) none ∙ append-nil talk.calls) handles.next in
    fronts-same talk.calls (calls_of journal who) handles.made next ∙ ap (λ ks. (talk_in basis journal who ks).calls) whole

pub as_many : (basis : Basis) (journal : List Entry) (number : ℕ) (contexts : List (List KeyStroke)) (counts : List ℕ) (lines : List (List Line))
    → HandleAll basis journal number contexts counts lines → (length counts ≡ length contexts) × (length lines ≡ length contexts)
as_many basis journal number [] [] [] all = (refl, refl)
as_many basis journal number [] [] (l ∷ lines) all = absurd all
as_many basis journal number [] (c ∷ counts) lines all = absurd all
as_many basis journal number (k ∷ contexts) [] lines all = absurd all
as_many basis journal number (k ∷ contexts) (c ∷ counts) [] all = absurd all
as_many basis journal number (k ∷ contexts) (c ∷ counts) (l ∷ lines) all =
    let rest = as_many basis journal (suc number) contexts counts lines all.1 in (ap suc rest.0, ap suc rest.1)
