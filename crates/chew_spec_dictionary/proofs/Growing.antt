-- Histories that grow.
use Rattle.std.proofs.Common.{◌≡◌, ◌↔◌, ℕ, zero, suc, ◌+◌, ◌≤◌, ◌<◌, false, List, [], ◌∷◌, ◌++◌, length, take, map, cond, refl, ap, ap₂, sym, ◌∙◌, subst, eqb, ◌==◌, Option, Some, None, append_assoc, append-nil, arith}
use Rattle.std.specs.List.{slice_get}
use Rattle.std.specs.Option.{option_map}
use Rattle.std.proofs.lemmas.Bool.{cond-true, cond-false, eq-eqb, ne_eqb}
use Rattle.std.proofs.lemmas.List.{map-append}
use Rattle.std.proofs.lemmas.List.Elements.{filter-append}
use Rattle.std.proofs.lemmas.Option.{slice_get_past}
use Rattle.chew_spec_dictionary.specs.Call.{Call, Reply}
use Rattle.chew_spec_dictionary.specs.History.{Entry, Point, after, answer, calls_of, own, replies}
use Rattle.chew_spec_dictionary.specs.Growth.{IsFront, Made, reply_at}
use Rattle.chew_spec_dictionary.proofs.Histories.{after_joined, replies_joined}
use Rattle.chew_spec_dictionary.proofs.Invariants.{replies_counted}

-- the calls of two histories
calls_joined : (h more : List Entry) (who : ℕ) → calls_of (h ++ more) who ≡ calls_of h who ++ calls_of more who
calls_joined h more who =
    ap (map (λ (e : Entry). e.call)) (filter-append (λ (e : Entry). e.who == who) h more)
    ∙ map-append (λ (e : Entry). e.call) (own h who) (own more who)

-- fronts
pub front-itself : {X : Type 0} (xs : List X) → IsFront xs xs
front-itself xs = record { rest = []; joined = sym (append-nil xs) }

pub front-longer : {X : Type 0} (xs more : List X) → IsFront xs (xs ++ more)
front-longer xs more = record { rest = more; joined = refl }

pub front-over : {X : Type 0} (xs ys zs : List X) → IsFront xs ys → IsFront ys zs → IsFront xs zs
front-over xs ys zs f g = record { rest = f.rest ++ g.rest; joined = g.joined ∙ ap (λ (l : List _). l ++ g.rest) f.joined ∙ append_assoc xs f.rest g.rest }

-- a history that does not grow
pub made-nothing : (start : Point) (h : List Entry) (who : ℕ) → Made start h h who [] []
made-nothing start h who = record { more = []; joined = sym (append-nil h); calls = refl; replies = refl }

-- one that grows by an entry of the number
pub made-own : (start : Point) (h : List Entry) (e : Entry) → Made start h (h ++ e ∷ []) e.who (e.call ∷ []) ((answer (after start h) e.call).reply ∷ [])
made-own start h e = record {
  more = e ∷ [];
  joined = refl;
  calls = ap (λ b. map (λ (x : Entry). x.call) (cond b (e ∷ []) [])) (eq-eqb e.who e.who refl);
  replies = cond-true (eqb e.who e.who) ((answer (after start h) e.call).reply ∷ []) [] (eq-eqb e.who e.who refl);
}

-- one that grows by an entry of another
pub made-others : (start : Point) (h : List Entry) (e : Entry) (who : ℕ) → (e.who ≡ who → ⊥) → Made start h (h ++ e ∷ []) who [] []
made-others start h e who other = record {
  more = e ∷ [];
  joined = refl;
  calls = ap (λ b. map (λ (x : Entry). x.call) (cond b (e ∷ []) [])) (ne_eqb e.who who other);
  replies = cond-false (eqb e.who who) ((answer (after start h) e.call).reply ∷ []) [] (ne_eqb e.who who other);
}

-- one that grows twice
pub made-over : (start : Point) (before between now : List Entry) (who : ℕ) (asked more : List Call) (heard later : List Reply)
    → Made start before between who asked heard → Made start between now who more later → Made start before now who (asked ++ more) (heard ++ later)
made-over start before between now who asked more heard later m n = record {
  more = m.more ++ n.more;
  joined = n.joined ∙ ap (λ (l : List Entry). l ++ n.more) m.joined ∙ append_assoc before m.more n.more;
  calls = calls_joined m.more n.more who ∙ ap₂ (λ (x y : List Call). x ++ y) m.calls n.calls;
  replies = replies_joined (after start before) m.more n.more who
      ∙ ap₂ (λ (x y : List Reply). x ++ y) m.replies
      (ap (λ (p : Point). replies p n.more who) (sym (after_joined start before m.more) ∙ ap (after start) (sym m.joined)) ∙ n.replies);
}

-- what is known of one that grew
module _ (start : Point) (before now : List Entry) (who : ℕ) (asked : List Call) (heard : List Reply) (m : Made start before now who asked heard) where
  pub grown-front : IsFront before now
  grown-front = record { rest = m.more; joined = m.joined }

  pub grown-calls : calls_of now who ≡ calls_of before who ++ asked
  grown-calls = ap (λ (l : List Entry). calls_of l who) m.joined ∙ calls_joined before m.more who ∙ ap (λ (l : List Call). calls_of before who ++ l) m.calls

  pub grown-replies : replies start now who ≡ replies start before who ++ heard
  grown-replies = ap (λ (l : List Entry). replies start l who) m.joined ∙ replies_joined start before m.more who ∙ ap (λ (l : List Reply). replies start before who ++ l) m.replies

  pub grown-each : length heard ≡ length asked
  grown-each = ap length (sym m.replies) ∙ replies_counted (after start before) m.more who ∙ ap length m.calls

-- one that grew from nothing
pub grown-all : (start : Point) (h : List Entry) (who : ℕ) (asked : List Call) (heard : List Reply) → Made start [] h who asked heard ↔ ((calls_of h who ≡ asked) × (replies start h who ≡ heard))
grown-all start h who asked heard = (
  λ m. (ap (λ (l : List Entry). calls_of l who) m.joined ∙ m.calls, ap (λ (l : List Entry). replies start l who) m.joined ∙ m.replies),
  λ f. record { more = h; joined = refl; calls = f.0; replies = f.1 },
)

-- the reply at a place
pub reply-here : (p : Point) (h : List Entry) (e : Entry) (more : List Entry) → reply_at p (h ++ e ∷ more) (length h) ≡ Some (answer (after p h) e.call).reply
reply-here p [] e more = refl
reply-here p (x ∷ h) e more = reply-here (answer p x.call).point h e more

pub reply-first : (p : Point) (h more : List Entry) (place : ℕ) → place < length h → reply_at p (h ++ more) place ≡ reply_at p h place
reply-first p [] more place l = absurd (omega arith)
reply-first p (x ∷ h) more zero l = refl
reply-first p (x ∷ h) more (suc place) l = reply-first (answer p x.call).point h more place (omega arith)

pub reply-second : (p : Point) (h more : List Entry) (place : ℕ) → reply_at p (h ++ more) (length h + place) ≡ reply_at (after p h) more place
reply-second p [] more place = ap (reply_at p more) (let e : 0 + place ≡ place = omega arith in e)
reply-second p (x ∷ h) more place =
    ap (reply_at p (x ∷ (h ++ more))) (let e : suc (length h) + place ≡ suc (length h + place) = omega arith in e)
    ∙ reply-second (answer p x.call).point h more place

pub reply-none : (p : Point) (h : List Entry) (place : ℕ) → length h ≤ place → reply_at p h place ≡ None
reply-none p h place l = ap (option_map (λ (e : Entry). (answer (after p (take place h)) e.call).reply)) (slice_get_past h place l)
