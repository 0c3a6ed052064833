-- The pieces that an entry leads to, one after the other.
use Rattle.std.proofs.Common.{◌≡◌, ℕ, ◌+◌, ◌-◌, ◌<◌, ◌≤◌, List, [], ◌∷◌, ◌++◌, slice_get, Option, Some, None, Less, Equal, Greater, Ordering, nat_cmp, append_assoc, sym, refl, ap, ap₂, ◌∙◌, subst, arith, rules}
use Rattle.std.specs.Cmp.Lexicographic.{slice_cmp}
use Rattle.std.specs.Ordering.{ordering_then}
use Rattle.std.specs.Prelude.{IsSome}
use Rattle.std.proofs.lemmas.Bool.Decides.{nat_tests}
use Rattle.std.proofs.lemmas.List.{append-nil}
use Rattle.std.proofs.lemmas.Option.{none-some, same_Some}
use Rattle.chew_spec_dictionary.specs.Look.{Interval}
use Rattle.chew_spec_phrasing.specs.Segmentation.{IsSegmentation, lengths}
use Rattle.chew_spec_phrasing.specs.Usable.{Piece, phrase_len}
use Rattle.chew_phrasing.specs.Table.{CanGoOn, Entry, GoesOn, HasOrder, Leads}
use Rattle.chew_phrasing.proofs.Stands.{parts_of}

-- what is left of an order once some of its pieces are there
pub record Remains (usable : Interval → Option Piece) (levels : List (List Entry)) (n left : ℕ) (entry : Entry) (done order : List Piece) : Type 0 where
  pub rest : List Piece
  pub is_one : IsSegmentation usable (n - left) left rest
  pub leads : Leads levels left entry rest
  pub joined : done ++ rest ≡ order

-- what an entry goes on with is one
pub next_unique : (levels : List (List Entry)) (left : ℕ) (entry next other : Entry) → GoesOn levels left entry next → GoesOn levels left entry other → next ≡ other
next_unique levels left entry next other h i =
    let same : h.level ≡ i.level = same_Some h.level i.level (sym h.is_level ∙ i.is_level) in
    same_Some next other (sym h.is ∙ (ap (λ level. slice_get level entry.rest) same ∙ i.is))

-- at the end nothing
pub Remains-none : (usable : Interval → Option Piece) (levels : List (List Entry)) (n left : ℕ) (entry : Entry) (done order : List Piece) → left ≡ 0 → Remains usable levels n left entry done order → done ≡ order
Remains-none usable levels n left entry done order none h = by_rest h.rest h.is_one h.joined
  where
    by_rest : (rest : List Piece) → IsSegmentation usable (n - left) left rest → done ++ rest ≡ order → done ≡ order
    by_rest [] one e = sym (append-nil done) ∙ e
    by_rest (piece ∷ rest) one e = absurd (let p = parts_of usable (n - left) left piece rest one in let a = p.from_one in let b = p.within in omega arith)

-- before the end an entry goes on, and its piece is usable
pub record Step (usable : Interval → Option Piece) (levels : List (List Entry)) (n left : ℕ) (entry : Entry) (done order : List Piece) : Type 0 where
  pub piece : Piece
  pub next : Entry
  pub is_usable : usable (record { start = n - left; len = entry.len }) ≡ Some piece
  pub goes_on : GoesOn levels left entry next
  pub later : Remains usable levels n (left - entry.len) next (done ++ (piece ∷ [])) order

pub Step-of : (usable : Interval → Option Piece) (levels : List (List Entry)) (n left : ℕ) (entry : Entry) (done order : List Piece) → 0 < left → left ≤ n → Remains usable levels n left entry done order
    → Step usable levels n left entry done order
Step-of usable levels n left entry done order some within h = by_rest h.rest h.is_one h.leads h.joined
  where
    by_rest : (rest : List Piece) → IsSegmentation usable (n - left) left rest → Leads levels left entry rest → done ++ rest ≡ order → Step usable levels n left entry done order
    by_rest [] one leads e = absurd (omega arith)
    by_rest (piece ∷ rest) one leads e =
        let p = parts_of usable (n - left) left piece rest one in
        let same : phrase_len piece.phrase ≡ entry.len = leads.0 in
        let on = leads.1.1 in
        let a = on.within in
        record {
          piece = piece;
          next = leads.1.0;
          is_usable = ap (λ k. usable (record { start = n - left; len = k })) (sym same) ∙ p.is_usable;
          goes_on = on;
          later = record {
            rest = rest;
            is_one = subst (λ k. IsSegmentation usable k (left - entry.len) rest) (let f : n - left + entry.len ≡ n - (left - entry.len) = omega arith in f)
                (subst (λ k. IsSegmentation usable (n - left + k) (left - k) rest) same p.follows);
            leads = leads.1.2;
            joined = append_assoc done (piece ∷ []) rest ∙ e;
          };
        }

-- the same, with what was found
pub step_taken : (usable : Interval → Option Piece) (levels : List (List Entry)) (n left start len rest : ℕ) (entry next : Entry) (piece : Piece) (done pushed order : List Piece) → 0 < left → left ≤ n → start ≡ n - left → len ≡ entry.len
    → Some piece ≡ usable (record { start = start; len = len }) → GoesOn levels left entry next → rest ≡ left - len → pushed ≡ done ++ (piece ∷ []) → Remains usable levels n left entry done order → Remains usable levels n rest next pushed order
step_taken usable levels n left start len rest entry next piece done pushed order some within at long is on left_is push h =
    let s = Step-of usable levels n left entry done order some within h in
    let same_next = next_unique levels left entry s.next next s.goes_on on in
    let same_piece : s.piece ≡ piece = same_Some s.piece piece (sym s.is_usable ∙ (ap₂ (λ a b. usable (record { start = a; len = b })) (sym at) (sym long) ∙ sym is)) in
    subst (λ k. Remains usable levels n k next pushed order) (ap (λ k. left - k) (sym long) ∙ sym left_is)
    (subst (λ xs. Remains usable levels n (left - entry.len) next xs order) (ap (λ x. done ++ (x ∷ [])) same_piece ∙ sym push)
    (subst (λ e. Remains usable levels n (left - entry.len) e (done ++ (s.piece ∷ [])) order) same_next s.later))

-- an entry with an order goes on, before the end
pub goes_on : (levels : List (List Entry)) (left : ℕ) (entry : Entry) → HasOrder levels left entry → 0 < left → CanGoOn levels left entry
goes_on levels left entry h some = by_order h.order h.leads
  where
    by_order : (order : List Piece) → Leads levels left entry order → CanGoOn levels left entry
    by_order [] leads = absurd (omega arith)
    by_order (piece ∷ order) leads = record { next = leads.1.0; goes_on = leads.1.1 }

-- and what it goes on with has an order
pub rest_has_order : (levels : List (List Entry)) (left rest len : ℕ) (entry next : Entry) → HasOrder levels left entry → 0 < left → len ≡ entry.len → rest ≡ left - len → GoesOn levels left entry next → HasOrder levels rest next
rest_has_order levels left rest len entry next h some long is on = by_order h.order h.leads
  where
    by_order : (order : List Piece) → Leads levels left entry order → HasOrder levels rest next
    by_order [] leads = absurd (omega arith)
    by_order (piece ∷ order) leads = record {
      order = order;
      leads = subst (λ k. Leads levels k next order) (ap (λ k. left - k) (sym long) ∙ sym is)
          (subst (λ e. Leads levels (left - entry.len) e order) (next_unique levels left entry leads.1.0 next leads.1.1 on) leads.1.2);
    }

-- at the end no lengths are left
pub same_at_end : (levels : List (List Entry)) (left : ℕ) (entry other : Entry) (mine yours : List Piece) → left ≡ 0 → Leads levels left entry mine → Leads levels left other yours → Equal ≡ slice_cmp nat_cmp (lengths mine) (lengths yours)
same_at_end levels left entry other [] [] none h i = refl
same_at_end levels left entry other (m ∷ mine) yours none h i = absurd (let on = h.1.1 in let a = on.from_one in let b = on.within in omega arith)
same_at_end levels left entry other [] (y ∷ yours) none h i = absurd (let on = i.1.1 in let a = on.from_one in let b = on.within in omega arith)

pub equal_numbers : (a b : ℕ) → nat_cmp a b ≡ Equal → a ≡ b
equal_numbers a b e = grind (arith, nat_tests)

-- after equal lengths the rest decides
pub rest_decides : (levels : List (List Entry)) (left rest len : ℕ) (entry other next after : Entry) (r : Ordering) (mine yours : List Piece) → 0 < left → Equal ≡ nat_cmp entry.len other.len → len ≡ entry.len → rest ≡ left - len
    → GoesOn levels left entry next → GoesOn levels left other after → ((m y : List Piece) → Leads levels rest next m → Leads levels rest after y → r ≡ slice_cmp nat_cmp (lengths m) (lengths y))
    → Leads levels left entry mine → Leads levels left other yours → r ≡ slice_cmp nat_cmp (lengths mine) (lengths yours)
rest_decides levels left rest len entry other next after r [] yours some tie long is on off later h i = absurd (omega arith)
rest_decides levels left rest len entry other next after r (m ∷ mine) [] some tie long is on off later h i = absurd (omega arith)
rest_decides levels left rest len entry other next after r (m ∷ mine) (y ∷ yours) some tie long is on off later h i =
    let same : entry.len ≡ other.len = equal_numbers entry.len other.len (sym tie) in
    let first : nat_cmp (phrase_len m.phrase) (phrase_len y.phrase) ≡ Equal = ap₂ nat_cmp h.0 i.0 ∙ sym tie in
    let mine_leads = subst (λ e. Leads levels (left - entry.len) e mine) (next_unique levels left entry h.1.0 next h.1.1 on) h.1.2 in
    let yours_leads = subst (λ e. Leads levels (left - other.len) e yours) (next_unique levels left other i.1.0 after i.1.1 off) i.1.2 in
    let k : left - entry.len ≡ rest = ap (λ x. left - x) (sym long) ∙ sym is in
    let l : left - other.len ≡ rest = ap (λ x. left - x) (sym same) ∙ k in
    later mine yours (subst (λ x. Leads levels x next mine) k mine_leads) (subst (λ x. Leads levels x after yours) l yours_leads)
    ∙ sym (ap (λ o. ordering_then o (slice_cmp nat_cmp (lengths mine) (lengths yours))) first)

-- and unequal lengths do by themselves
pub first_decides : (levels : List (List Entry)) (left : ℕ) (entry other : Entry) (r : Ordering) (mine yours : List Piece) → 0 < left → r ≡ nat_cmp entry.len other.len → (r ≡ Equal → ⊥)
    → Leads levels left entry mine → Leads levels left other yours → r ≡ slice_cmp nat_cmp (lengths mine) (lengths yours)
first_decides levels left entry other r [] yours some is differ h i = absurd (omega arith)
first_decides levels left entry other r (m ∷ mine) [] some is differ h i = absurd (omega arith)
first_decides levels left entry other r (m ∷ mine) (y ∷ yours) some is differ h i =
    by_answer r (is ∙ ap₂ nat_cmp (sym h.0) (sym i.0)) differ
  where
    by_answer : (o : Ordering) → o ≡ nat_cmp (phrase_len m.phrase) (phrase_len y.phrase) → (o ≡ Equal → ⊥) → o ≡ slice_cmp nat_cmp (phrase_len m.phrase ∷ lengths mine) (phrase_len y.phrase ∷ lengths yours)
    by_answer Less e differ = ap (λ p. ordering_then p (slice_cmp nat_cmp (lengths mine) (lengths yours))) e
    by_answer Equal e differ = absurd (differ refl)
    by_answer Greater e differ = ap (λ p. ordering_then p (slice_cmp nat_cmp (lengths mine) (lengths yours))) e

-- what is found is there
pub some_is : {X : Type 0} (o : Option X) (x : X) → o ≡ Some x → IsSome o
some_is None x e = absurd (none-some x e)
some_is (Some y) x e = search rules
