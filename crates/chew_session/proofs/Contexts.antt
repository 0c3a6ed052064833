-- Contexts that type beside each other, and what they did by the whole history.
use Rattle.std.specs.Prelude.{◌≡◌, ◌≤◌, ◌<◌, ◌+◌, ◌-◌, ℕ, zero, suc, List, [], ◌∷◌, ◌++◌, All, drop, flat_map, get_or, length, map, take, refl}
use Rattle.std.specs.List.{AllZip, range_with_len}
use Rattle.std.proofs.Common.{arith, sym, ap, ap₂, ◌∙◌, subst}
use Rattle.std.proofs.lemmas.List.{append-nil, length-append, length-take}
use Rattle.std.proofs.lemmas.List.Elements.{All-cons, All-head, All-nil, All-push, All-tail}
use Rattle.chew_spec_dictionary.specs.Call.{Call, Reply}
use Rattle.chew_spec_dictionary.specs.Growth.{IsFront}
use Rattle.chew_spec_dictionary.specs.History.{Entry, Point, after, calls_of, own, replies}
use Rattle.chew_spec_dictionary.proofs.Histories.{replies_joined}
use Rattle.chew_spec_dictionary.proofs.Invariants.{replies_counted}
use Rattle.chew_spec_text.specs.KeyStroke.{KeyStroke}
use Rattle.chew_spec_text.specs.Line.{Line, line_text}
use Rattle.chew_spec_editor.specs.Talk.{talk}
use Rattle.chew_spec_cell.specs.Pass.{Cell, Pass, new_passes}
use Rattle.chew_spec_cell.specs.Sight.{HasSeen}
use Rattle.chew_spec_cell.proofs.Fronts.{nothing_long}
use Rattle.chew_spec_cell.proofs.Sights.{seen-over, seen-own}
use Rattle.chew_spec_shared.specs.SharedCalls.{IsOf}
use Rattle.chew_spec_session.specs.Context.{Basis, HandleAll, Handles, calls_with_next}
use Rattle.chew_spec_session.specs.Session.{ContextEnd}
use Rattle.chew_session.specs.Crew.{AllRan, AreDone, EachAnswered, IsFresh, SeesMore, context_passes, keys_at, keys_of_all}
use Rattle.chew_session.specs.Typing.{Ran}
use Rattle.chew_session.specs.declared.actor.Actor.{Actor}
use Rattle.chew_session.proofs.Ends.{last-apart}

-- a context more, behind the others
pub ran-one : (basis : Basis) (who : ℕ) (contexts : List (List KeyStroke)) (passes : List Pass) (ends : List ContextEnd) (keys : List KeyStroke) (pass : Pass) (end : ContextEnd) (number : ℕ)
    → AllRan basis who contexts passes ends → number ≡ who + length contexts → pass.who ≡ number → Ran basis number keys pass.seen end
    → AllRan basis who (contexts ++ keys ∷ []) (passes ++ pass ∷ []) (ends ++ end ∷ [])
ran-one basis who [] [] [] keys pass end number all at is ran =
    let same : number ≡ who = omega arith in
    (is ∙ same, subst (λ (n : ℕ). Ran basis n keys pass.seen end) same ran, tt)
ran-one basis who [] [] (e ∷ ends) keys pass end number all at is ran = absurd all
ran-one basis who [] (p ∷ passes) ends keys pass end number all at is ran = absurd all
ran-one basis who (k ∷ contexts) [] ends keys pass end number all at is ran = absurd all
ran-one basis who (k ∷ contexts) (p ∷ passes) [] keys pass end number all at is ran = absurd all
ran-one basis who (k ∷ contexts) (p ∷ passes) (e ∷ ends) keys pass end number all at is ran =
    (all.0, all.1, ran-one basis (suc who) contexts passes ends keys pass end number all.2 (omega arith) is ran)

-- nobody's replies
none-heard : (p : Point) (h : List Entry) (who : ℕ) → own h who ≡ [] → replies p h who ≡ []
none-heard p h who none =
    nothing_long (replies p h who) (let counted = replies_counted p h who in let calls : calls_of h who ≡ [] = ap (map (λ (e : Entry). e.call)) none in let long = ap length calls in omega arith)

seen-replies : (start : Point) (who : ℕ) (seen journal : List Entry) → HasSeen who seen journal → replies start journal who ≡ replies start seen who
seen-replies start who seen journal has =
    ap (λ (h : List Entry). replies start h who) has.joined ∙ replies_joined start seen has.later who
    ∙ ap (λ (rs : List Reply). replies start seen who ++ rs) (none-heard (after start seen) has.later who has.none) ∙ append-nil (replies start seen who)

seen-calls : (who : ℕ) (seen journal : List Entry) → HasSeen who seen journal → calls_of journal who ≡ calls_of seen who
seen-calls who seen journal has = ap (map (λ (e : Entry). e.call)) (seen-own who seen journal has)

-- what a context handled by what its pass has seen, it handled by the whole history
handles-on : (basis : Basis) (who : ℕ) (seen journal : List Entry) (keys : List KeyStroke) (count : ℕ) (lines : List Line) → HasSeen who seen journal → Handles basis seen who keys count lines
    → Handles basis journal who keys count lines
handles-on basis who seen journal keys count lines has handles =
    let heard = sym (seen-replies basis.start who seen journal has) in
    let called = sym (seen-calls who seen journal has) in
    record {
      each = handles.each;
      talked = handles.talked ∙ ap (λ (rs : List Reply). (talk basis.system basis.settings (take count keys) rs).lines) heard;
      made = subst (λ (rs : List Reply). IsFront (talk basis.system basis.settings (take count keys) rs).calls (calls_of journal who)) heard
          (subst (λ (cs : List Call). IsFront (talk basis.system basis.settings (take count keys) (replies basis.start seen who)).calls cs) called handles.made);
      next = subst (λ (rs : List Reply). IsFront (calls_of journal who) (calls_with_next basis (talk basis.system basis.settings (take count keys) rs) (drop count keys))) heard
          (subst (λ (cs : List Call). IsFront cs (calls_with_next basis (talk basis.system basis.settings (take count keys) (replies basis.start seen who)) (drop count keys))) called handles.next);
    }

-- all contexts by the whole history
pub record AllHandled (basis : Basis) (journal : List Entry) (who : ℕ) (contexts : List (List KeyStroke)) (ends : List ContextEnd) : Type 0 where
  pub numbers : map (λ (e : ContextEnd). e.who) ends ≡ range_with_len who (length contexts)
  pub lines : List (List Line)
  pub handled : HandleAll basis journal who contexts (map (λ (e : ContextEnd). e.handled) ends) lines
  pub printed : map (λ (e : ContextEnd). e.bytes) ends ≡ map (flat_map line_text) lines

handled-one : (basis : Basis) (journal : List Entry) (who : ℕ) (keys : List KeyStroke) (contexts : List (List KeyStroke)) (pass met : Pass) (end : ContextEnd) (ends : List ContextEnd) → pass.who ≡ who
    → Ran basis who keys pass.seen end → SeesMore pass met → HasSeen met.who met.seen journal → AllHandled basis journal (suc who) contexts ends → AllHandled basis journal who (keys ∷ contexts) (end ∷ ends)
handled-one basis journal who keys contexts pass met end ends is ran more seen rest =
    let own-seen : HasSeen who pass.seen met.seen = subst (λ (n : ℕ). HasSeen n pass.seen met.seen) is more.seen in
    let all-seen : HasSeen who met.seen journal = subst (λ (n : ℕ). HasSeen n met.seen journal) (more.who ∙ is) seen in
    record {
      numbers = ap₂ (λ (n : ℕ) (ns : List ℕ). n ∷ ns) ran.number (rest.numbers ∙ ap (λ (n : ℕ). range_with_len n (length contexts)) (let e : suc who ≡ who + 1 = omega arith in e));
      lines = ran.lines ∷ rest.lines;
      handled = (handles-on basis who pass.seen journal keys end.handled ran.lines (seen-over who pass.seen met.seen journal own-seen all-seen) ran.handles, rest.handled);
      printed = ap₂ (λ (b : List ℕ) (bs : List (List ℕ)). b ∷ bs) ran.printed rest.printed;
    }

pub all-handled : (basis : Basis) (journal : List Entry) (who : ℕ) (contexts : List (List KeyStroke)) (passes met : List Pass) (ends : List ContextEnd) → AllRan basis who contexts passes ends
    → AllZip SeesMore passes met → All (λ (p : Pass). HasSeen p.who p.seen journal) met → AllHandled basis journal who contexts ends
all-handled basis journal who [] [] met [] ran more seen = record { numbers = refl; lines = []; handled = tt; printed = refl }
all-handled basis journal who [] [] met (e ∷ ends) ran more seen = absurd ran
all-handled basis journal who [] (p ∷ passes) met ends ran more seen = absurd ran
all-handled basis journal who (k ∷ contexts) [] met ends ran more seen = absurd ran
all-handled basis journal who (k ∷ contexts) (p ∷ passes) met [] ran more seen = absurd ran
all-handled basis journal who (k ∷ contexts) (p ∷ passes) [] (e ∷ ends) ran more seen = absurd more
all-handled basis journal who (k ∷ contexts) (p ∷ passes) (m ∷ met) (e ∷ ends) ran more seen =
    handled-one basis journal who k contexts p m e ends ran.0 ran.1 more.0 (All-head (λ (q : Pass). HasSeen q.who q.seen journal) m met seen)
    (all-handled basis journal (suc who) contexts passes met ends ran.2 more.1 (All-tail (λ (q : Pass). HasSeen q.who q.seen journal) m met seen))

-- the numbers of the passes that met
pub few-numbers : (basis : Basis) (who : ℕ) (contexts : List (List KeyStroke)) (passes met : List Pass) (ends : List ContextEnd) → AllRan basis who contexts passes ends → AllZip SeesMore passes met
    → (most : ℕ) → who + length contexts ≤ suc most → All (λ (p : Pass). p.who ≤ most) met
few-numbers basis who [] [] [] [] ran more most few = All-nil (λ (p : Pass). p.who ≤ most)
few-numbers basis who [] [] [] (e ∷ ends) ran more most few = absurd ran
few-numbers basis who [] [] (m ∷ met) ends ran more most few = absurd more
few-numbers basis who [] (p ∷ passes) met ends ran more most few = absurd ran
few-numbers basis who (k ∷ contexts) [] met ends ran more most few = absurd ran
few-numbers basis who (k ∷ contexts) (p ∷ passes) met [] ran more most few = absurd ran
few-numbers basis who (k ∷ contexts) (p ∷ passes) [] (e ∷ ends) ran more most few = absurd more
few-numbers basis who (k ∷ contexts) (p ∷ passes) (m ∷ met) (e ∷ ends) ran more most few =
    let number = ran.0 in
    let same = more.0.who in
    All-cons (λ (q : Pass). q.who ≤ most) m met (omega arith) (few-numbers basis (suc who) contexts passes met ends ran.2 more.1 most (omega arith))

-- the passes of contexts are all passes but the first
pub passes-then : (cell : Cell) (count : ℕ) → new_passes cell (suc count) ≡ record { cell = cell; who = 0; seen = [] } ∷ context_passes cell count
passes-then cell zero = refl
passes-then cell (suc count) = ap (λ (ps : List Pass). ps ++ record { cell = cell; who = suc count; seen = [] } ∷ []) (passes-then cell count)

pub length-context_passes : (cell : Cell) (count : ℕ) → length (context_passes cell count) ≡ count
length-context_passes cell zero = refl
length-context_passes cell (suc count) =
    let long = length-append (context_passes cell count) (record { cell = cell; who = suc count; seen = [] } ∷ []) in let rest = length-context_passes cell count in omega arith

-- one context more has ended
pub done-one : (basis : Basis) (shared : Cell) (contexts all : List (List KeyStroke)) (passes longer : List Pass) (ends more : List ContextEnd) (keys : List KeyStroke) (pass mine : Pass) (end : ContextEnd)
    → AreDone basis shared contexts passes ends → pass.who ≡ 1 + length contexts → IsOf shared mine → mine.who ≡ pass.who → Ran basis pass.who keys mine.seen end
    → all ≡ contexts ++ keys ∷ [] → longer ≡ passes ++ mine ∷ [] → more ≡ ends ++ end ∷ [] → AreDone basis shared all longer more
done-one basis shared contexts all passes longer ends more keys pass mine end done number ours same ran all_is longer_is more_is =
    let each = done.each in
    let passes_long = ap length longer_is ∙ length-append passes (mine ∷ []) in
    let ends_long = ap length more_is ∙ length-append ends (end ∷ []) in
    record {
      ours = subst (λ (ps : List Pass). All (λ (p : Pass). IsOf shared p) ps) (sym longer_is) (All-push (λ (p : Pass). IsOf shared p) passes mine done.ours ours);
      each = omega arith;
      ran = subst (λ (ks : List (List KeyStroke)). AllRan basis 1 ks longer more) (sym all_is)
          (subst (λ (ps : List Pass). AllRan basis 1 (contexts ++ keys ∷ []) ps more) (sym longer_is)
          (subst (λ (es : List ContextEnd). AllRan basis 1 (contexts ++ keys ∷ []) (passes ++ mine ∷ []) es) (sym more_is)
          (ran-one basis 1 contexts passes ends keys mine end pass.who done.ran number same ran)));
    }

-- the keys of one context more
keys-then : (contexts : List (List KeyStroke)) (count : ℕ) → count < length contexts → take (suc count) contexts ≡ take count contexts ++ get_or contexts count [] ∷ []
keys-then [] count here = absurd (omega arith)
keys-then (keys ∷ contexts) zero here = refl
keys-then (keys ∷ contexts) (suc count) here = ap (λ (ks : List (List KeyStroke)). keys ∷ ks) (keys-then contexts count (omega arith))

keys-one : (contexts : List (List KeyStroke)) (count : ℕ) → count < length contexts → take (suc count) contexts ≡ take count contexts ++ keys_at contexts (suc count) ∷ []
keys-one contexts count here =
    keys-then contexts count here ∙ ap (λ (n : ℕ). take count contexts ++ get_or contexts n [] ∷ []) (let e : count ≡ suc count - 1 = omega arith in e)

-- how a context may end that types with this pass
abbrev pub EndsSo : Basis → Cell → List (List KeyStroke) → Pass → Pass × ContextEnd → Type 0
EndsSo basis shared contexts pass ended = IsOf shared ended.0 × (ended.0.who ≡ pass.who) × Ran basis pass.who (keys_at contexts pass.who) ended.0.seen ended.1

-- the first contexts are done, where each of them ends so
pub each-done : (basis : Basis) (shared : Cell) (contexts : List (List KeyStroke)) (count : ℕ) (backs : List Pass) (ends : List ContextEnd) → count ≤ length contexts
    → EachAnswered (EndsSo basis shared contexts) (context_passes shared count) backs ends → AreDone basis shared (take count contexts) backs ends
each-done basis shared contexts zero [] [] few each = record { ours = All-nil (λ (p : Pass). IsOf shared p); each = refl; ran = tt }
each-done basis shared contexts zero [] (e ∷ ends) few each = absurd each
each-done basis shared contexts zero (b ∷ backs) ends few each = absurd each
each-done basis shared contexts (suc count) backs ends few each =
    let mine : Pass = record { cell = shared; who = suc count; seen = [] } in
    let apart = last-apart (EndsSo basis shared contexts) (context_passes shared count) mine backs ends each in
    let taken = length-take count contexts in
    done-one basis shared (take count contexts) (take (suc count) contexts) apart.first_backs backs apart.first_ends ends (keys_at contexts (suc count)) mine apart.back apart.end
    (each-done basis shared contexts count apart.first_backs apart.first_ends (omega arith) apart.first) (omega arith) apart.last.0 apart.last.1 apart.last.2
    (keys-one contexts count (omega arith)) apart.backs_are apart.ends_are

-- the passes of the first contexts are fresh
pub each-fresh : (shared : Cell) (contexts count : ℕ) → count ≤ contexts → All (λ pass. IsFresh shared contexts pass) (context_passes shared count)
each-fresh shared contexts zero few = All-nil (λ (pass : Pass). IsFresh shared contexts pass)
each-fresh shared contexts (suc count) few =
    All-push (λ (pass : Pass). IsFresh shared contexts pass) (context_passes shared count) (record { cell = shared; who = suc count; seen = [] })
    (each-fresh shared contexts count (omega arith)) (record { ours = refl; from_one = omega arith; within = few; unseen = refl })

-- as many passes as contexts
pub ran-long : (basis : Basis) (who : ℕ) (contexts : List (List KeyStroke)) (passes : List Pass) (ends : List ContextEnd) → AllRan basis who contexts passes ends → length passes ≡ length contexts
ran-long basis who [] [] [] ran = refl
ran-long basis who [] [] (e ∷ ends) ran = absurd ran
ran-long basis who [] (p ∷ passes) ends ran = absurd ran
ran-long basis who (k ∷ contexts) [] ends ran = absurd ran
ran-long basis who (k ∷ contexts) (p ∷ passes) [] ran = absurd ran
ran-long basis who (k ∷ contexts) (p ∷ passes) (e ∷ ends) ran = ap suc (ran-long basis (suc who) contexts passes ends ran.2)

pub passes-are : (cell : Cell) (keeper : Pass) (passes : List Pass) (count : ℕ) → keeper ∷ passes ≡ new_passes cell (count + 1) → passes ≡ context_passes cell count
passes-are cell keeper passes count same =
    ap (drop 1) (same ∙ ap (new_passes cell) (let e : count + 1 ≡ suc count = omega arith in e) ∙ passes-then cell count)

-- as many lists of keys as contexts
pub keys-long : (actors : List Actor) → length (keys_of_all actors) ≡ length actors
keys-long [] = refl
keys-long (actor ∷ actors) = ap suc (keys-long actors)

-- as many passes as contexts
pub each-pass : (cell : Cell) (keeper : Pass) (passes : List Pass) (n count : ℕ) → n ≡ length passes → keeper ∷ passes ≡ new_passes cell (count + 1) → n ≡ count
each-pass cell keeper passes n count long same =
    let whole = ap length (passes-are cell keeper passes count same) in let counted = length-context_passes cell count in omega arith
