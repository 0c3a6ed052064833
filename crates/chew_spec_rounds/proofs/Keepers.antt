-- How the shape changes over a stretch of a history, by the keeper's calls in it.
use Rattle.std.specs.Prelude.{◌≡◌, ℕ, Bool, true, false, not, ◌&&◌, ◌==◌, cond, List, [], ◌∷◌, map, drop, get_or, Option, Some, None, unwrap_or, if◌then◌else◌, refl}
use Rattle.std.specs.Option.{option_map_or}
use Rattle.std.proofs.Common.{sym, ap, ◌∙◌, subst, ⊎_elim}
use Rattle.std.proofs.lemmas.Bool.{and_parts, eqb-true, true≢false}
use Rattle.chew_spec_dictionary.specs.Call.{Call, Look, Learn, Forget, Hide, Freeze, Install, is_proper}
use Rattle.chew_spec_dictionary.specs.History.{Entry, Point, Shape, after, answer, calls_of, own, is_keepers, is_legal, is_legal_entry, installs_waiting}
use Rattle.chew_spec_rounds.specs.Round.{Round, Saved, DiskFault, NoMemory, SeqSpent, KeepersCalls, saved_number}

-- a call of another than the keeper leaves the shape
user-shape : (p : Point) (call : Call) → is_keepers call ≡ false → (answer p call).point.shape ≡ p.shape
user-shape p (Look run) k = refl
user-shape p (Learn key phrase orig peak) k = refl
user-shape p (Forget key phrase) k = refl
user-shape p (Hide key phrase) k = refl
user-shape p Freeze k = absurd (true≢false k)
user-shape p (Install number) k = absurd (true≢false k)

-- who makes which calls
by-whom : (b k : Bool) → (if b then k else not k) ≡ true → k ≡ b
by-whom true k h = h
by-whom false true h = sym h
by-whom false false h = refl

keepers-call : (p : Point) (e : Entry) (h : List Entry) → is_legal p (e ∷ h) ≡ true → is_keepers e.call ≡ (e.who == 0)
keepers-call p e h l =
    let both = and_parts (is_legal_entry p e) (is_legal (answer p e.call).point h) l in
    by-whom (e.who == 0) (is_keepers e.call) (and_parts (if e.who == 0 then is_keepers e.call else not (is_keepers e.call)) (is_proper e.call && installs_waiting p e.call) both.0).0

rest-legal : (p : Point) (e : Entry) (h : List Entry) → is_legal p (e ∷ h) ≡ true → is_legal (answer p e.call).point h ≡ true
rest-legal p e h l = (and_parts (is_legal_entry p e) (is_legal (answer p e.call).point h) l).1

-- the calls of an entry and those behind it
calls-first : (b : Bool) (e : Entry) (h : List Entry) → (e.who == 0) ≡ b → calls_of (e ∷ h) 0 ≡ cond b (e.call ∷ calls_of h 0) (calls_of h 0)
calls-first true e h is = ap (λ b. map (λ d. d.call) (cond b (e ∷ own h 0) (own h 0))) is
calls-first false e h is = ap (λ b. map (λ d. d.call) (cond b (e ∷ own h 0) (own h 0))) is

no-call : (call : Call) (calls : List Call) → call ∷ calls ≡ [] → ⊥
no-call call calls e = absurd (true≢false (ap is_made e))
  where
    is_made : List Call → Bool
    is_made [] = false
    is_made (c ∷ cs) = true

-- a stretch without a call of the keeper leaves the shape
pub quiet-shape : (p : Point) (h : List Entry) → is_legal p h ≡ true → calls_of h 0 ≡ [] → (after p h).shape ≡ p.shape
quiet-shape p [] l none = refl
quiet-shape p (e ∷ h) l none = by (e.who == 0) refl (quiet-shape (answer p e.call).point h (rest-legal p e h l))
  where
    by : (b : Bool) → (e.who == 0) ≡ b → (calls_of h 0 ≡ [] → (after (answer p e.call).point h).shape ≡ (answer p e.call).point.shape)
        → (after (answer p e.call).point h).shape ≡ p.shape
    by true is behind = absurd (no-call e.call (calls_of h 0) (sym (calls-first true e h is) ∙ none))
    by false is behind = behind (sym (calls-first false e h is) ∙ none) ∙ user-shape p e.call (keepers-call p e h l ∙ is)

-- a stretch up to the keeper's first call, and what follows it
record Parts (p : Point) (h : List Entry) (call : Call) (calls : List Call) : Type 0 where
  middle : Point
  rest : List Entry
  shape : middle.shape ≡ p.shape
  legal : is_legal (answer middle call).point rest ≡ true
  waits : installs_waiting middle call ≡ true
  calls_then : calls_of rest 0 ≡ calls
  same : after p h ≡ after (answer middle call).point rest

parts-here : (p : Point) (e : Entry) (h : List Entry) (call : Call) (calls : List Call) → is_legal p (e ∷ h) ≡ true → e.call ∷ calls_of h 0 ≡ call ∷ calls → Parts p (e ∷ h) call calls
parts-here p e h call calls l same =
    let is : e.call ≡ call = ap (λ cs. get_or cs 0 call) same in
    subst (λ c. Parts p (e ∷ h) c calls) is (record {
      middle = p;
      rest = h;
      shape = refl;
      legal = rest-legal p e h l;
      waits = let both = and_parts (is_legal_entry p e) (is_legal (answer p e.call).point h) l in
          (and_parts (is_proper e.call) (installs_waiting p e.call)
          (and_parts (if e.who == 0 then is_keepers e.call else not (is_keepers e.call)) (is_proper e.call && installs_waiting p e.call) both.0).1).1;
      calls_then = ap (drop 1) same;
      same = refl;
    })

parts : (p : Point) (h : List Entry) (call : Call) (calls : List Call) → is_legal p h ≡ true → calls_of h 0 ≡ call ∷ calls → Parts p h call calls
parts p [] call calls l same = absurd (no-call call calls (sym same))
parts p (e ∷ h) call calls l same = by (e.who == 0) refl (parts (answer p e.call).point h call calls (rest-legal p e h l))
  where
    by : (b : Bool) → (e.who == 0) ≡ b → (calls_of h 0 ≡ call ∷ calls → Parts (answer p e.call).point h call calls) → Parts p (e ∷ h) call calls
    by true is behind = parts-here p e h call calls l (sym (calls-first true e h is) ∙ same)
    by false is behind =
        let found = behind (sym (calls-first false e h is) ∙ same) in
        record {
          middle = found.middle;
          rest = found.rest;
          shape = found.shape ∙ user-shape p e.call (keepers-call p e h l ∙ is);
          legal = found.legal;
          waits = found.waits;
          calls_then = found.calls_then;
          same = found.same;
        }

-- the shape after a freeze at some place
abbrev pub frozen_at : Shape → ℕ → Shape
frozen_at shape place = record { installed = shape.installed; waiting = Some (unwrap_or shape.waiting place) }

-- a stretch in which the keeper only freezes
pub frozen-shape : (p : Point) (h : List Entry) → is_legal p h ≡ true → calls_of h 0 ≡ Freeze ∷ [] → (place : ℕ) × ((after p h).shape ≡ frozen_at p.shape place)
frozen-shape p h l same =
    let found = parts p h Freeze [] l same in (
      found.middle.place,
      ap (λ (q : Point). q.shape) found.same ∙ quiet-shape (answer found.middle Freeze).point found.rest found.legal found.calls_then
          ∙ ap (λ shape. frozen_at shape found.middle.place) found.shape,
    )

-- a stretch in which it installs, and does nothing more
pub installed-shape : (p : Point) (h : List Entry) (number : ℕ) → is_legal p h ≡ true → calls_of h 0 ≡ Install number ∷ [] → (after p h).shape ≡ record { installed = number; waiting = None }
installed-shape p h number l same =
    let found = parts p h (Install number) [] l same in
    ap (λ (q : Point). q.shape) found.same ∙ quiet-shape (answer found.middle (Install number)).point found.rest found.legal found.calls_then

-- a stretch in which it freezes and then installs
pub saved-shape : (p : Point) (h : List Entry) (number : ℕ) → is_legal p h ≡ true → calls_of h 0 ≡ Freeze ∷ (Install number ∷ []) → (after p h).shape ≡ record { installed = number; waiting = None }
saved-shape p h number l same =
    let found = parts p h Freeze (Install number ∷ []) l same in
    ap (λ (q : Point). q.shape) found.same ∙ installed-shape (answer found.middle Freeze).point found.rest number found.legal found.calls_then

-- what a round installs
pub round-installed : (p : Point) (h : List Entry) (round : Round) → is_legal p h ≡ true → KeepersCalls round (calls_of h 0) → (after p h).shape.installed ≡ unwrap_or (saved_number round) p.shape.installed
round-installed p h (Saved number) l calls = ap (λ (s : Shape). s.installed) (saved-shape p h number l calls)
round-installed p h (DiskFault step) l calls = ap (λ (s : Shape). s.installed) (frozen-shape p h l calls).1
round-installed p h NoMemory l calls =
    ⊎_elim (λ freeze. ap (λ (s : Shape). s.installed) (frozen-shape p h l freeze).1) (λ none. ap (λ (s : Shape). s.installed) (quiet-shape p h l none)) calls
round-installed p h (SeqSpent seq) l calls = ap (λ (s : Shape). s.installed) (quiet-shape p h l calls)

pub some-same : {x y : ℕ} → Some x ≡ Some y → x ≡ y
some-same {x} e = ap (λ o. unwrap_or o x) e

-- an install names what waits
pub named : (waiting : Option ℕ) (number : ℕ) → option_map_or (λ waits. waits == number) waiting false ≡ true → waiting ≡ Some number
named None number h = absurd (true≢false (sym h))
named (Some waits) number h = ap Some (eqb-true waits number h)

-- the number that waits before a stretch in which the keeper only installs
pub install-names : (p : Point) (h : List Entry) (number : ℕ) → is_legal p h ≡ true → calls_of h 0 ≡ Install number ∷ [] → p.shape.waiting ≡ Some number
install-names p h number l same =
    let found = parts p h (Install number) [] l same in
    ap (λ (s : Shape). s.waiting) (sym found.shape) ∙ named found.middle.shape.waiting number found.waits
