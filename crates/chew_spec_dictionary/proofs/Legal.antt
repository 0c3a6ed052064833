-- Which entries are legal.
use Rattle.std.proofs.Common.{◌≡◌, ◌↔◌, ℕ, zero, suc, ◌≤◌, ◌<◌, Bool, true, false, not, ◌&&◌, List, [], ◌∷◌, ◌++◌, length, get_or, cond, refl, ap, sym, ◌∙◌, subst, nat_le, ◌==◌, eqb, if◌then◌else◌, Option, Some, None, Contains, arith}
use Rattle.std.specs.Option.{option_map_or}
use Rattle.std.proofs.lemmas.Bool.{and_from, and_parts, cond-false, cond-true, eq-eqb, eqb-true, le-leb, leb-true, ne_eqb, true≢false}
use Rattle.chew_spec_syllable.specs.Row.{greatest_freq, is_pair}
use Rattle.chew_spec_dictionary.specs.HiddenPairs.{can_hide}
use Rattle.chew_spec_dictionary.specs.Call.{Call, Look, Learn, Forget, Hide, Freeze, Install, is_proper}
use Rattle.chew_spec_dictionary.specs.History.{Entry, Point, after, answer, installs_waiting, is_keepers, is_legal, is_legal_entry, is_user_call}
use Rattle.chew_spec_dictionary.proofs.Histories.{legal_joined}

-- a user's call is proper
pub user-proper : (call : Call) → is_user_call call ≡ true → is_proper call ≡ true
user-proper call u = (and_parts (not (is_keepers call)) (is_proper call) u).1

-- a call that is none of the keeper's installs nothing
user-waits : (p : Point) (call : Call) → is_keepers call ≡ false → installs_waiting p call ≡ true
user-waits p (Look run) k = refl
user-waits p (Learn key phrase orig peak) k = refl
user-waits p (Forget key phrase) k = refl
user-waits p (Hide key phrase) k = refl
user-waits p Freeze k = refl
user-waits p (Install number) k = absurd (true≢false k)

-- which calls are proper
pub learn-proper : (key phrase : List ℕ) (orig peak : ℕ) → (is_proper (Learn key phrase orig peak) ≡ true) ↔ ((is_pair key phrase ≡ true) × (orig ≤ peak) × (peak ≤ 99_999_999))
learn-proper key phrase orig peak = (
  λ h. let pair = and_parts (is_pair key phrase) (nat_le orig peak && nat_le peak greatest_freq) h in
      let freqs = and_parts (nat_le orig peak) (nat_le peak greatest_freq) pair.1 in
      (pair.0, leb-true orig peak freqs.0, leb-true peak 99_999_999 freqs.1),
  λ h. and_from (is_pair key phrase) (nat_le orig peak && nat_le peak greatest_freq) h.0 (and_from (nat_le orig peak) (nat_le peak greatest_freq) (le-leb orig peak h.1) (le-leb peak 99_999_999 h.2)),
)

pub hide-proper : (key phrase : List ℕ) → (is_proper (Hide key phrase) ≡ true) ↔ ((is_pair key phrase ≡ true) × (2 ≤ length key))
hide-proper key phrase = (
  λ h. let both = and_parts (is_pair key phrase) (can_hide key) h in (both.0, leb-true 2 (length key) both.1),
  λ h. and_from (is_pair key phrase) (can_hide key) h.0 (le-leb 2 (length key) h.1),
)

-- an entry of a legal history is legal at some point
legal-somewhere : (p : Point) (h : List Entry) (k : ℕ) (d : Entry) → is_legal p h ≡ true → k < length h → (q : Point) × (is_legal_entry q (get_or h k d) ≡ true)
legal-somewhere p [] k d l less = absurd (omega arith)
legal-somewhere p (e ∷ h) zero d l less = (p, (and_parts (is_legal_entry p e) (is_legal (answer p e.call).point h) l).0)
legal-somewhere p (e ∷ h) (suc k) d l less = legal-somewhere (answer p e.call).point h k d (and_parts (is_legal_entry p e) (is_legal (answer p e.call).point h) l).1 (omega arith)

legal-of : (p : Point) (h : List Entry) (e : Entry) → is_legal p h ≡ true → Contains h e → (q : Point) × (is_legal_entry q e ≡ true)
legal-of p h e l c = let found = legal-somewhere p h c.0 e l c.1 in (found.0, ap (is_legal_entry found.0) (sym c.2) ∙ found.1)

-- who makes which calls
by-whom : (b k : Bool) → (if b then k else not k) ≡ true → b ≡ k
by-whom true k h = sym h
by-whom false true h = h
by-whom false false h = refl

pub keepers-calls : (p : Point) (h : List Entry) (e : Entry) → is_legal p h ≡ true → Contains h e → (e.who ≡ 0) ↔ (is_keepers e.call ≡ true)
keepers-calls p h e l c =
    let legal = legal-of p h e l c in
    let same = by-whom (e.who == 0) (is_keepers e.call) (and_parts (if e.who == 0 then is_keepers e.call else not (is_keepers e.call)) (is_proper e.call && installs_waiting legal.0 e.call) legal.1).0 in
    (λ z. sym same ∙ eq-eqb e.who 0 z, λ k. eqb-true e.who 0 (same ∙ k))

pub proper-calls : (p : Point) (h : List Entry) (e : Entry) → is_legal p h ≡ true → Contains h e → is_proper e.call ≡ true
proper-calls p h e l c =
    let legal = legal-of p h e l c in
    (and_parts (is_proper e.call) (installs_waiting legal.0 e.call) (and_parts (if e.who == 0 then is_keepers e.call else not (is_keepers e.call)) (is_proper e.call && installs_waiting legal.0 e.call) legal.1).1).0

-- an install names what waits
named : (o : Option ℕ) (number : ℕ) → option_map_or (λ waits. waits == number) o false ≡ true → o ≡ Some number
named None number h = absurd (true≢false (sym h))
named (Some waits) number h = ap Some (eqb-true waits number h)

pub waits-then : (p : Point) (h : List Entry) (e : Entry) (more : List Entry) (number : ℕ) → is_legal p (h ++ e ∷ more) ≡ true → e.call ≡ Install number → (after p h).shape.waiting ≡ Some number
waits-then p h e more number l is =
    let q = after p h in
    let rest = (and_parts (is_legal p h) (is_legal q (e ∷ more)) (sym (legal_joined p h (e ∷ more)) ∙ l)).1 in
    let entry = (and_parts (is_legal_entry q e) (is_legal (answer q e.call).point more) rest).0 in
    let call = (and_parts (if e.who == 0 then is_keepers e.call else not (is_keepers e.call)) (is_proper e.call && installs_waiting q e.call) entry).1 in
    named q.shape.waiting number (ap (installs_waiting q) (sym is) ∙ (and_parts (is_proper e.call) (installs_waiting q e.call) call).1)

-- an entry of anyone but the keeper
of-user : (p : Point) (call : Call) (k : Bool) → is_keepers call ≡ k → (not k && (is_proper call && installs_waiting p call)) ≡ (not k && is_proper call)
of-user p call true k = refl
of-user p call false k = ap (λ b. is_proper call && b) (user-waits p call k) ∙ and-true (is_proper call)
  where
    and-true : (b : Bool) → (b && true) ≡ b
    and-true true = refl
    and-true false = refl

pub users-entries : (p : Point) (e : Entry) → (e.who ≡ 0 → ⊥) → is_legal_entry p e ≡ is_user_call e.call
users-entries p e other =
    ap (λ b. b && (is_proper e.call && installs_waiting p e.call)) (cond-false (eqb e.who 0) (is_keepers e.call) (not (is_keepers e.call)) (ne_eqb e.who 0 other))
    ∙ of-user p e.call (is_keepers e.call) refl
