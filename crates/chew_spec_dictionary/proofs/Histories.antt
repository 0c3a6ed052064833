-- Histories joined end to end.
use Rattle.std.proofs.Common.{◌≡◌, ℕ, ◌+◌, Bool, true, false, List, [], ◌∷◌, ◌++◌, ◌&&◌, length, cond, refl, ap, sym, ◌∙◌, eqb, arith}
use Rattle.std.proofs.lemmas.Bool.{eq-eqb}
use Rattle.std.proofs.lemmas.List.Elements.{filter-append}
use Rattle.chew_spec_dictionary.specs.Call.{Call, Look, Learn, Forget, Hide, Freeze, Install, Reply}
use Rattle.chew_spec_dictionary.specs.History.{Point, Entry, after, replies, own, is_legal, is_legal_entry, answer}

-- the point after two histories is that after the second, from the point after the first
pub after_joined : (p : Point) (h more : List Entry) → after p (h ++ more) ≡ after (after p h) more
after_joined p [] more = refl
after_joined p (e ∷ h) more = after_joined (answer p e.call).point h more

-- a test before a list leaves what follows the list as it is
kept_or_not : (b : Bool) (r : Reply) (a x y : List Reply) → a ≡ x ++ y → cond b (r ∷ a) a ≡ cond b (r ∷ x) x ++ y
kept_or_not true r a x y e = ap (λ (l : List Reply). r ∷ l) e
kept_or_not false r a x y e = e

-- the replies of two histories are those of the first, then those of the second from the point after the first
pub replies_joined : (p : Point) (h more : List Entry) (who : ℕ) → replies p (h ++ more) who ≡ replies p h who ++ replies (after p h) more who
replies_joined p [] more who = refl
replies_joined p (e ∷ h) more who = kept_or_not (eqb e.who who) (answer p e.call).reply _ _ _ (replies_joined (answer p e.call).point h more who)

-- the first reply of a history is that of its first entry
reply_first : (p : Point) (e : Entry) (more : List Entry) → replies p (e ∷ more) e.who ≡ (answer p e.call).reply ∷ replies (answer p e.call).point more e.who
reply_first p e more = ap (λ (b : Bool). cond b ((answer p e.call).reply ∷ replies (answer p e.call).point more e.who) (replies (answer p e.call).point more e.who)) (eq-eqb e.who e.who refl)

-- the reply to an entry is what its call is answered after the entries before it
pub reply_at : (p : Point) (h : List Entry) (e : Entry) (more : List Entry) → replies p (h ++ (e ∷ more)) e.who ≡ replies p h e.who ++ ((answer (after p h) e.call).reply ∷ replies (after p (h ++ (e ∷ []))) more e.who)
reply_at p h e more =
    replies_joined p h (e ∷ more) e.who
    ∙ ap (λ (l : List Reply). replies p h e.who ++ l) (reply_first (after p h) e more)
    ∙ ap (λ (q : Point). replies p h e.who ++ ((answer (after p h) e.call).reply ∷ replies q more e.who)) (sym (after_joined p h (e ∷ [])))

-- the entries of a number
pub own_joined : (h more : List Entry) (who : ℕ) → own (h ++ more) who ≡ own h who ++ own more who
own_joined h more who = filter-append (λ e. eqb e.who who) h more

-- a fact beside two others
and_beside : (a b c d : Bool) → b ≡ c && d → a && b ≡ (a && c) && d
and_beside true b c d e = e
and_beside false b c d e = refl

-- two histories are legal where the first is, and the second from the point after the first
pub legal_joined : (p : Point) (h more : List Entry) → is_legal p (h ++ more) ≡ is_legal p h && is_legal (after p h) more
legal_joined p [] more = refl
legal_joined p (e ∷ h) more = and_beside (is_legal_entry p e) _ _ _ (legal_joined (answer p e.call).point h more)

-- a call is one entry more
place_one : (p : Point) (call : Call) → (answer p call).point.place ≡ p.place + 1
place_one p (Look run) = omega arith
place_one p (Learn key phrase orig peak) = omega arith
place_one p (Forget key phrase) = omega arith
place_one p (Hide key phrase) = omega arith
place_one p Freeze = omega arith
place_one p (Install number) = omega arith

-- a place is the number of entries before it
pub place_after : (p : Point) (h : List Entry) → (after p h).place ≡ p.place + length h
place_after p [] = omega arith
place_after p (e ∷ h) = place_after (answer p e.call).point h ∙ (let f = place_one p e.call in omega arith)
