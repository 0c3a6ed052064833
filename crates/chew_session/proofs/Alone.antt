-- Once all passes are in hand: after what the keeper saw then, nobody else made an entry.
use Rattle.std.specs.Prelude.{◌≡◌, ◌⊎◌, ◌≤◌, ◌<◌, ◌==◌, ℕ, zero, suc, true, List, [], ◌∷◌, ◌++◌, All, Contains, cond, length, map, slice_index_or, refl}
use Rattle.std.proofs.Common.{arith, inl, inr, sym, ap, ◌∙◌, subst, ⊎_elim}
use Rattle.std.proofs.lemmas.Bool.{eq-eqb}
use Rattle.std.proofs.lemmas.List.{append-nil, append_assoc, append_cancel_left}
use Rattle.std.proofs.lemmas.List.Elements.{All-cons, All-contains, All-contains_itself, All-head, All-nil, All-tail, All-weaker, Contains-append_right}
use Rattle.chew_spec_dictionary.specs.History.{Entry, own}
use Rattle.chew_spec_dictionary.specs.Growth.{IsFront}
use Rattle.chew_spec_cell.specs.Pass.{Pass}
use Rattle.chew_spec_cell.specs.Sight.{HasSeen}
use Rattle.chew_spec_cell.proofs.Fronts.{between}
use Rattle.chew_spec_cell.proofs.Sights.{none-last}

-- the entries of a history after these are the keeper's
pub record EndsAlone (seen journal : List Entry) : Type 0 where
  pub rest : List Entry
  pub joined : journal ≡ seen ++ rest
  pub alone : All (λ (e : Entry). e.who ≡ 0) rest

-- an entry stands among those of its number
no-list : {X : Type 0} (x : X) (xs : List X) → x ∷ xs ≡ [] → ⊥
no-list x xs same = let long = ap length same in omega arith

own-first : (e : Entry) (h : List Entry) (who : ℕ) → e.who ≡ who → own (e ∷ h) who ≡ e ∷ own h who
own-first e h who is = ap (λ t. cond t (e ∷ own h who) (own h who)) (eq-eqb e.who who is)

own-at : (h : List Entry) (e : Entry) (who k : ℕ) → e.who ≡ who → k < length h → slice_index_or h k e ≡ e → own h who ≡ [] → ⊥
own-at [] e who k is low same none = absurd (omega arith)
own-at (x ∷ h) e who zero is low same none =
    let first : x.who ≡ who = ap (λ (d : Entry). d.who) same ∙ is in
    no-list x (own h who) (sym (own-first x h who first) ∙ none)
own-at (x ∷ h) e who (suc k) is low same none = own-at h e who k is (omega arith) same (none-last (x ∷ []) h who none)

-- a number that stands among those of passes is that of one of them
pass-at : (P : Pass → Type 0) (passes : List Pass) (who k : ℕ) → k < length (map (λ (p : Pass). p.who) passes) → slice_index_or (map (λ (p : Pass). p.who) passes) k who ≡ who → All P passes
    → (p : Pass) × (p.who ≡ who) × P p
pass-at P [] who k low same all = absurd (omega arith)
pass-at P (p ∷ passes) who zero low same all = (p, same, All-head P p passes all)
pass-at P (p ∷ passes) who (suc k) low same all = pass-at P passes who k (omega arith) same (All-tail P p passes all)

pub pass-of : (P : Pass → Type 0) (passes : List Pass) (who : ℕ) → Contains (map (λ (p : Pass). p.who) passes) who → All P passes → (p : Pass) × (p.who ≡ who) × P p
pass-of P passes who has all = pass-at P passes who has.0 has.1 has.2 all

-- a pass that has seen no more than this front of a history, all of whose own entries it has seen
abbrev IsWithin : List Entry → List Entry → Pass → Type 0
IsWithin met journal p = HasSeen p.who p.seen journal × ((p.who ≡ 0) ⊎ (length p.seen ≤ length met))

keepers-own : (met journal rest : List Entry) (e : Entry) → journal ≡ met ++ rest → Contains rest e → (p : Pass) × (p.who ≡ e.who) × IsWithin met journal p → e.who ≡ 0
keepers-own met journal rest e joined has found =
    ⊎_elim
    (λ keeper. sym found.1 ∙ keeper)
    (λ short.
    let parts = between found.0.seen found.2.0.later met rest (sym found.2.0.joined ∙ joined) short in
    let none : own rest found.0.who ≡ [] = none-last parts.0 rest found.0.who (ap (λ (h : List Entry). own h found.0.who) (sym parts.2) ∙ found.2.0.none) in
    absurd (own-at rest e found.0.who has.0 (sym found.1) has.1 has.2 none))
    found.2.1

pub ends-alone : (met journal : List Entry) (keeper : Pass) (passes : List Pass) → keeper.who ≡ 0 → IsFront met journal → All (λ (p : Pass). length p.seen ≤ length met) passes
    → All (λ (p : Pass). HasSeen p.who p.seen journal) (keeper ∷ passes) → All (λ (e : Entry). Contains (map (λ (p : Pass). p.who) (keeper ∷ passes)) e.who) journal → EndsAlone met journal
ends-alone met journal keeper passes is front most seen known =
    let within : All (IsWithin met journal) (keeper ∷ passes) =
    All-cons (IsWithin met journal) keeper passes (All-head (λ (p : Pass). HasSeen p.who p.seen journal) keeper passes seen, inl is)
    (λ k d low. (All-tail (λ (p : Pass). HasSeen p.who p.seen journal) keeper passes seen k d low, inr (most k d low))) in
    record {
      rest = front.rest;
      joined = front.joined;
      alone = All-weaker (Contains front.rest) (λ (e : Entry). e.who ≡ 0)
          (λ e has.
          keepers-own met journal front.rest e front.joined has
          (pass-of (IsWithin met journal) (keeper ∷ passes) e.who
          (All-contains (λ (d : Entry). Contains (map (λ (p : Pass). p.who) (keeper ∷ passes)) d.who) journal e known
          (subst (λ (h : List Entry). Contains h e) (sym front.joined) (Contains-append_right met front.rest e has)))
          within))
          front.rest (All-contains_itself front.rest);
    }

-- parts of a stretch of the keeper's
keepers-last : (xs ys : List Entry) → All (λ (e : Entry). e.who ≡ 0) (xs ++ ys) → All (λ (e : Entry). e.who ≡ 0) ys
keepers-last [] ys all = all
keepers-last (x ∷ xs) ys all = keepers-last xs ys (All-tail (λ (e : Entry). e.who ≡ 0) x (xs ++ ys) all)

keepers-first : (xs ys : List Entry) → All (λ (e : Entry). e.who ≡ 0) (xs ++ ys) → All (λ (e : Entry). e.who ≡ 0) xs
keepers-first [] ys all = All-nil (λ (e : Entry). e.who ≡ 0)
keepers-first (x ∷ xs) ys all =
    All-cons (λ (e : Entry). e.who ≡ 0) x xs (All-head (λ (e : Entry). e.who ≡ 0) x (xs ++ ys) all) (keepers-first xs ys (All-tail (λ (e : Entry). e.who ≡ 0) x (xs ++ ys) all))

-- a stretch between two later fronts of such a history is the keeper's
pub alone-between : (met journal before more now : List Entry) → EndsAlone met journal → IsFront met before → now ≡ before ++ more → IsFront now journal → All (λ (e : Entry). e.who ≡ 0) more
alone-between met journal before more now ends first joined last =
    let whole : journal ≡ met ++ (first.rest ++ (more ++ last.rest)) =
    last.joined ∙ ap (λ (h : List Entry). h ++ last.rest) (joined ∙ ap (λ (h : List Entry). h ++ more) first.joined)
    ∙ append_assoc (met ++ first.rest) more last.rest ∙ append_assoc met first.rest (more ++ last.rest) in
    let same : first.rest ++ (more ++ last.rest) ≡ ends.rest = append_cancel_left met (first.rest ++ (more ++ last.rest)) ends.rest (sym whole ∙ ends.joined) in
    keepers-first more last.rest
    (keepers-last first.rest (more ++ last.rest) (subst (λ (h : List Entry). All (λ (e : Entry). e.who ≡ 0) h) (sym same) ends.alone))

-- where only the keeper made entries, and the keeper made none, there are none
nobodys : (h : List Entry) → All (λ (e : Entry). e.who ≡ 0) h → own h 0 ≡ [] → h ≡ []
nobodys [] all none = refl
nobodys (e ∷ h) all none = absurd (no-list e (own h 0) (sym (own-first e h 0 (All-head (λ (d : Entry). d.who ≡ 0) e h all)) ∙ none))

pub alone-still : (met journal before now : List Entry) → EndsAlone met journal → IsFront met before → HasSeen 0 before now → IsFront now journal → now ≡ before
alone-still met journal before now ends first seen last =
    seen.joined ∙ ap (λ (h : List Entry). before ++ h) (nobodys seen.later (alone-between met journal before seen.later now ends first seen.joined last) seen.none) ∙ append-nil before
