-- The lists of candidates for a place.
use Rattle.std.proofs.Common.{◌≡◌, ◌↔◌, ◌⊎◌, inl, inr, ℕ, zero, suc, ◌+◌, ◌-◌, ◌<◌, ◌≤◌, min, Bool, true, false, ◌&&◌, List, [], ◌∷◌, ◌++◌, length, map, filter, reverse, Contains, refl, ap, sym, subst, ◌∙◌, arith}
use Rattle.std.specs.Prelude.{nat_le, nat_lt}
use Rattle.std.specs.List.{list_all, range_with_len}
use Rattle.std.proofs.lemmas.Bool.{and_from, and_parts, cases_eq, le-leb, leb-true, lt-ltb, ltb-true}
use Rattle.std.proofs.lemmas.List.Elements.{Contains-append_cases, Contains-append_left, Contains-append_right}
use mathlib.Core.List.{reverse-cons}
use Rattle.chew_spec_dictionary.specs.Call.{Hit}
use Rattle.chew_spec_phrasing.proofs.Membership.{Contains-cases, Contains-filter, Contains-from_filter, Contains-from_map, Contains-head, Contains-map, Contains-nil, Contains-single, Contains-tail}
use Rattle.chew_spec_preedit.specs.InTurn.{is_in_turn}
use Rattle.chew_spec_preedit.specs.Window.{CandidateList, candidate_lists, candidates_of, has_candidate, is_falling, is_whole_at, lengths_at}
use Rattle.chew_spec_preedit.proofs.Kept.{is_in_turn-filter, is_in_turn-join, list_all-filter, list_all-join, list_all-true, list_all-weaker}

abbrev pub longer : ℕ → ℕ → Bool
longer len later = nat_lt later len

-- the numbers from one on, backwards: all from it on, each once
reversed_least : (from n : ℕ) → list_all (nat_le from) (reverse (range_with_len from n)) ≡ true
reversed_least from zero = refl
reversed_least from (suc n) =
    ap (list_all (nat_le from)) (reverse-cons from (range_with_len (from + 1) n))
    ∙ list_all-join (nat_le from) (reverse (range_with_len (from + 1) n)) (from ∷ [])
    (list_all-weaker (nat_le (from + 1)) (nat_le from) (λ x l. le-leb from x (let m = leb-true (from + 1) x l in omega arith)) (reverse (range_with_len (from + 1) n)) (reversed_least (from + 1) n))
    (and_from (nat_le from from) true (le-leb from from (omega arith)) refl)

reversed_falling : (from n : ℕ) → is_in_turn longer (reverse (range_with_len from n)) ≡ true
reversed_falling from zero = refl
reversed_falling from (suc n) =
    let later = reverse (range_with_len (from + 1) n) in
    ap (is_in_turn longer) (reverse-cons from (range_with_len (from + 1) n))
    ∙ is_in_turn-join longer later (from ∷ []) (reversed_falling (from + 1) n) refl
    (list_all-weaker (nat_le (from + 1)) (λ x. list_all (longer x) (from ∷ [])) (λ x l. and_from (nat_lt from x) true (lt-ltb from x (let m = leb-true (from + 1) x l in omega arith)) refl) later (reversed_least (from + 1) n))

reversed_has : (from n x : ℕ) → from ≤ x → x < from + n → Contains (reverse (range_with_len from n)) x
reversed_has from zero x l m = absurd (omega arith)
reversed_has from (suc n) x l m =
    subst (λ (xs : List ℕ). Contains xs x) (sym (reverse-cons from (range_with_len (from + 1) n)))
    (elim (cases_eq x from) [
      | inl e ↦ subst (λ (y : ℕ). Contains (reverse (range_with_len (from + 1) n) ++ (from ∷ [])) y) (sym e) (Contains-append_right (reverse (range_with_len (from + 1) n)) (from ∷ []) from (Contains-head from []))
      | inr ne ↦ Contains-append_left (reverse (range_with_len (from + 1) n)) (from ∷ []) x (reversed_has (from + 1) n x (omega arith) (omega arith))
    ])

-- a number that is among them lies there
pub record IsFrom (from n x : ℕ) : Type 0 where
  pub low : from ≤ x
  pub high : x < from + n

reversed_only : (from n x : ℕ) → Contains (reverse (range_with_len from n)) x → IsFrom from n x
reversed_only from zero x i = absurd (Contains-nil x i)
reversed_only from (suc n) x i =
    elim (Contains-append_cases (reverse (range_with_len (from + 1) n)) (from ∷ []) x (subst (λ (xs : List ℕ). Contains xs x) (reverse-cons from (range_with_len (from + 1) n)) i)) [
      | inl j ↦ (let r = reversed_only (from + 1) n x j in record { low = let a = r.low in omega arith; high = let a = r.high in omega arith })
      | inr j ↦ (let e = Contains-single from x j in record { low = omega arith; high = omega arith })
    ]

is_in_turn-map : {X Y : Type 0} (R : X → X → Bool) (S : Y → Y → Bool) (f : X → Y) → ((x y : X) → R x y ≡ true → S (f x) (f y) ≡ true) → (xs : List X) → is_in_turn R xs ≡ true → is_in_turn S (map f xs) ≡ true
is_in_turn-map R S f h [] e = refl
is_in_turn-map R S f h (x ∷ xs) e =
    let parts = and_parts (list_all (R x) xs) (is_in_turn R xs) e in
    and_from (list_all (S (f x)) (map f xs)) (is_in_turn S (map f xs)) (mapped (R x) (S (f x)) f (h x) xs parts.0) (is_in_turn-map R S f h xs parts.1)
  where
    mapped : {X Y : Type 0} (p : X → Bool) (q : Y → Bool) (f : X → Y) → ((y : X) → p y ≡ true → q (f y) ≡ true) → (xs : List X) → list_all p xs ≡ true → list_all q (map f xs) ≡ true
    mapped p q f h [] e = refl
    mapped p q f h (x ∷ xs) e =
        let parts = and_parts (p x) (list_all p xs) e in
        and_from (q (f x)) (list_all q (map f xs)) (h x parts.0) (mapped p q f h xs parts.1)

pub lists-falling : (rows : List Hit) (breaks : List ℕ) (n place : ℕ) → is_falling (candidate_lists rows breaks n place) ≡ true
unfolding candidate_lists
lists-falling rows breaks n place =
    let whole = filter (is_whole_at breaks place) (lengths_at n place) in
    is_in_turn-filter (λ list later. nat_lt later.len list.len) has_candidate (map (candidates_of rows place) whole)
    (is_in_turn-map longer (λ list later. nat_lt later.len list.len) (candidates_of rows place) (λ x y l. l) whole
    (is_in_turn-filter longer (is_whole_at breaks place) (lengths_at n place) (reversed_falling 1 (min 11 (n - place)))))

pub lists-filled : (rows : List Hit) (breaks : List ℕ) (n place : ℕ) → list_all has_candidate (candidate_lists rows breaks n place) ≡ true
unfolding candidate_lists
lists-filled rows breaks n place =
    let all = map (candidates_of rows place) (filter (is_whole_at breaks place) (lengths_at n place)) in
    list_all-filter (λ list. true) has_candidate has_candidate (λ list _ k. k) all (list_all-true all)

pub lists-which : (rows : List Hit) (breaks : List ℕ) (n place : ℕ) (list : CandidateList) → Contains (candidate_lists rows breaks n place) list
    ↔ ((1 ≤ list.len) × (list.len ≤ 11) × (list.len ≤ n - place) × (is_whole_at breaks place list.len ≡ true) × (list ≡ candidates_of rows place list.len) × (has_candidate list ≡ true))
unfolding candidate_lists
lists-which rows breaks n place list = (
  λ i.
      let some = Contains-from_filter has_candidate (map (candidates_of rows place) (filter (is_whole_at breaks place) (lengths_at n place))) list i in
      let of = Contains-from_map (candidates_of rows place) (filter (is_whole_at breaks place) (lengths_at n place)) list some.0 in
      let whole = Contains-from_filter (is_whole_at breaks place) (lengths_at n place) of.0 of.1 in
      let from = reversed_only 1 (min 11 (n - place)) of.0 whole.0 in
      let len : of.0 ≡ list.len = ap (λ (l : CandidateList). l.len) of.2 in
      let low = from.low in
      let high = from.high in
      (omega arith, omega arith, omega arith, subst (λ (k : ℕ). is_whole_at breaks place k ≡ true) len whole.1, sym of.2 ∙ ap (candidates_of rows place) len, some.1),
  λ h.
      let a = h.0 in
      let b = h.1 in
      let c = h.2 in
      let among = Contains-filter (is_whole_at breaks place) (lengths_at n place) list.len (reversed_has 1 (min 11 (n - place)) list.len a (omega arith)) h.3 in
      Contains-filter has_candidate (map (candidates_of rows place) (filter (is_whole_at breaks place) (lengths_at n place))) list
      (subst (Contains (map (candidates_of rows place) (filter (is_whole_at breaks place) (lengths_at n place)))) (sym h.4) (Contains-map (candidates_of rows place) (filter (is_whole_at breaks place) (lengths_at n place)) list.len among)) h.5,
)
