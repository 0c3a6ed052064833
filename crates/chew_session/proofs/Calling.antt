-- Calls of one number, among those of others.
use Rattle.std.specs.Prelude.{◌≡◌, ℕ, suc, ◌+◌, ◌≤◌, Bool, true, false, List, [], ◌∷◌, ◌++◌, length, map, take, drop, cond, Result, Ok, Err, IfOk, OnOk, OnErr}
use Rattle.std.proofs.Common.{refl, ap, sym, ◌∙◌, subst, arith, get_or, eqb}
use Rattle.std.proofs.lemmas.List.{append-nil, take-append-drop, take_all, take_more}
use Rattle.chew_spec_dictionary.specs.Call.{Call, Reply}
use Rattle.chew_spec_dictionary.specs.History.{Entry, Point, after, answer, own, replies, start_of}
use Rattle.chew_spec_dictionary.specs.Growth.{IsFront, Made}
use Rattle.chew_spec_dictionary.proofs.Growing.{made-over, made-own}
use Rattle.chew_spec_cell.specs.Pass.{Cell, Pass}
use Rattle.chew_spec_cell.specs.Sight.{HasSeen}
use Rattle.chew_spec_shared.specs.SharedCalls.{Asked, IsOf}
use Rattle.chew_session.specs.Typing.{Asks, Hears}

-- what is known of a result that is this one
pub if_ok : {V E : Type 0} (p : V → Type 0) (r : Result V E) (v : V) → r ≡ Ok v → IfOk r p → p v
if_ok {V} {E} p r v e h = subst (λ (x : Result V E). IfOk x p) e h

pub on_ok : {V E : Type 0} (p : Type 0) (r : Result V E) (v : V) → r ≡ Ok v → OnOk r p → p
on_ok {V} {E} p r v e h = subst (λ (x : Result V E). OnOk x p) e h

pub on_err : {V E : Type 0} (p : Type 0) (r : Result V E) (x : E) → r ≡ Err x → OnErr r p → p
on_err {V} {E} p r x e h = subst (λ (y : Result V E). OnErr y p) e h

-- a number with no entries hears nothing
none_by : (b : Bool) (entry : Entry) (mine : List Entry) (reply : Reply) (others : List Reply) → (mine ≡ [] → others ≡ [])
    → cond b (entry ∷ mine) mine ≡ [] → cond b (reply ∷ others) others ≡ []
none_by true entry mine reply others rest h = absurd cc
none_by false entry mine reply others rest h = rest h

no_replies : (point : Point) (journal : List Entry) (who : ℕ) → own journal who ≡ [] → replies point journal who ≡ []
no_replies point [] who e = refl
no_replies point (entry ∷ journal) who e =
    none_by (eqb entry.who who) entry (own journal who) (answer point entry.call).reply (replies (answer point entry.call).point journal who)
    (no_replies (answer point entry.call).point journal who) e

-- from what it has seen on a number made no call
pub made-seen : (start : Point) (who : ℕ) (seen history : List Entry) → HasSeen who seen history → Made start seen history who [] []
made-seen start who seen history h = record {
  more = h.later;
  joined = h.joined;
  calls = ap (map (λ (e : Entry). e.call)) h.none;
  replies = no_replies (after start seen) h.later who h.none;
}

-- a call that was answered
pub made-asked : (shared : Cell) (pass : Pass) (call : Call) (reply : Reply) (seen : List Entry) → IsOf shared pass → Asked pass call reply seen
    → Made (start_of shared.start) pass.seen seen pass.who (call ∷ []) (reply ∷ [])
made-asked shared pass call reply seen ours asked =
    let start : Point = start_of pass.cell.start in
    let entry : Entry = record { who = pass.who; call = call } in
    let told : Reply = (answer (after start asked.before) call).reply in
    let made : Made start pass.seen (asked.before ++ entry ∷ []) pass.who (call ∷ []) (told ∷ []) =
    made-over start pass.seen asked.before (asked.before ++ entry ∷ []) pass.who [] (call ∷ []) [] (told ∷ [])
    (made-seen start pass.who pass.seen asked.before asked.others) (made-own start asked.before entry) in
    let heard : Made start pass.seen (asked.before ++ entry ∷ []) pass.who (call ∷ []) (reply ∷ []) =
    subst (λ (r : Reply). Made start pass.seen (asked.before ++ entry ∷ []) pass.who (call ∷ []) (r ∷ [])) (sym asked.answered) made in
    let here : Made start pass.seen seen pass.who (call ∷ []) (reply ∷ []) =
    subst (λ (s : List Entry). Made start pass.seen s pass.who (call ∷ []) (reply ∷ [])) (sym asked.made) heard in
    subst (λ (c : Cell). Made (start_of c.start) pass.seen seen pass.who (call ∷ []) (reply ∷ [])) ours here

-- one call more
pub made-more : (start : Point) (by who : ℕ) (calls : List Call) (i : ℕ) (call : Call) (first before now : List Entry) (heard all : List Reply) → suc i ≤ length calls
    → call ≡ get_or calls i call → by ≡ who → Made start first before who (take i calls) heard → Hears start by call before now heard all
    → Made start first now who (take (i + 1) calls) all
made-more start by who calls i call first before now heard all inside same me made hears =
    let longer : take i calls ++ call ∷ [] ≡ take (i + 1) calls =
    ap (λ (c : Call). take i calls ++ c ∷ []) same ∙ sym (take_more calls i call (omega arith)) in
    let mine : Made start before now who (call ∷ []) (hears.reply ∷ []) = subst (λ (n : ℕ). Made start before now n (call ∷ []) (hears.reply ∷ [])) me hears.made in
    subst (λ (c : List Call). Made start first now who c all) longer
    (subst (λ (r : List Reply). Made start first now who (take i calls ++ call ∷ []) r) (sym hears.behind)
    (made-over start first before now who (take i calls) (call ∷ []) heard (hears.reply ∷ []) made mine))

-- all of them
pub made-all : (start : Point) (who : ℕ) (calls : List Call) (i : ℕ) (before now : List Entry) (heard : List Reply) → length calls ≤ i
    → Made start before now who (take i calls) heard → Made start before now who calls heard
made-all start who calls i before now heard all made = subst (λ (c : List Call). Made start before now who c heard) (take_all i calls all) made

-- so many of them, and then others made some entries
pub asks-first : (start : Point) (by who : ℕ) (calls : List Call) (i : ℕ) (first before now : List Entry) (heard : List Reply) → by ≡ who
    → Made start first before who (take i calls) heard → Made start before now by [] [] → Asks start who calls first now
asks-first start by who calls i first before now heard me made others =
    let mine : Made start before now who [] [] = subst (λ (n : ℕ). Made start before now n [] []) me others in
    record {
      asked = take i calls ++ [];
      heard = heard ++ [];
      front = subst (λ (c : List Call). IsFront c calls) (sym (append-nil (take i calls))) (record { rest = drop i calls; joined = sym (take-append-drop i calls) });
      made = made-over start first before now who (take i calls) [] heard [] made mine;
    }

-- what a result tells of these calls, it tells of the same ones
pub made-by : {V E : Type 0} (start : Point) (who : ℕ) (before now : List Entry) (asked calls : List Call) (view : V → List Reply) (r : Result V E) (v : V)
    → asked ≡ calls → r ≡ Ok v → IfOk r (λ x. Made start before now who asked (view x)) → Made start before now who calls (view v)
made-by {V} start who before now asked calls view r v same is made =
    subst (λ (c : List Call). Made start before now who c (view v)) same (if_ok (λ (x : V). Made start before now who asked (view x)) r v is made)

pub asks-by : {V E : Type 0} (start : Point) (who : ℕ) (before now : List Entry) (asked calls : List Call) (r : Result V E) (x : E)
    → asked ≡ calls → r ≡ Err x → OnErr r (Asks start who asked before now) → Asks start who calls before now
asks-by start who before now asked calls r x same is asks =
    subst (λ (c : List Call). Asks start who c before now) same (on_err (Asks start who asked before now) r x is asks)
