-- Lists of views of which one changes, and numbers of a sight.
use Rattle.std.proofs.Common.{◌≡◌, ◌≢◌, ℕ, zero, suc, ◌+◌, ◌≤◌, Bool, true, false, List, [], ◌∷◌, ◌++◌, length, Contains, slice_index, slice_set, cond, eqb, eq-eqb, ne_eqb, refl, sym, ap, subst, ⊎_elim, true≢false, arith}
use mathlib.Core.Option.{some, some-ne-none, some-injective}
use lib.ListN.{get_elem?}
use Rattle.atomic_table.proofs.Lists.{at_set}
use Rattle.std.specs.declared.option.Option.{Option as Opt}
use Rattle.std.specs.Prelude.{Some, None, unwrap_or, is_some}
use Rattle.chew_cell.specs.View.{View}
use Rattle.chew_cell.specs.Rule.{total}

pub off : false ≡ true → ⊥
off e = true≢false (sym e)

pub no_ticket : (ticket : ℕ) → None ≡ Some ticket → ⊥
no_ticket ticket e = off (ap (λ (o : Opt ℕ). is_some o) e)

pub same_ticket : (ticket other : ℕ) → Some ticket ≡ Some other → ticket ≡ other
same_ticket ticket other e = ap (λ (o : Opt ℕ). unwrap_or o 0) e

-- one view of a list changes
pub set_there : (views : List View) (seat : ℕ) (v w : View) → get_elem? views seat ≡ some v → get_elem? (slice_set views seat w) seat ≡ some w
set_there [] seat v w at = absurd (some-ne-none v (sym at))
set_there (x ∷ views) zero v w at = refl
set_there (x ∷ views) (suc seat) v w at = set_there views seat v w at

pub total-set : (f : View → ℕ) (views : List View) (seat : ℕ) (v w : View) → get_elem? views seat ≡ some v → total f (slice_set views seat w) + f v ≡ total f views + f w
total-set f [] seat v w at = absurd (some-ne-none v (sym at))
total-set f (x ∷ views) zero v w at = let same : f x ≡ f v = ap f (some-injective x v at) in omega (arith, same)
total-set f (x ∷ views) (suc seat) v w at = let r = total-set f views seat v w at in omega (arith, r)

pub total-push : (f : View → ℕ) (views : List View) (w : View) → total f (views ++ w ∷ []) ≡ total f views + f w
total-push f [] w = omega arith
total-push f (v ∷ views) w = let r = total-push f views w in omega arith

pub total-one : (f : View → ℕ) (views : List View) (seat : ℕ) (v : View) → get_elem? views seat ≡ some v → f v ≤ total f views
total-one f [] seat v at = absurd (some-ne-none v (sym at))
total-one f (x ∷ views) zero v at = let same : f x ≡ f v = ap f (some-injective x v at) in omega (arith, same)
total-one f (x ∷ views) (suc seat) v at = let r = total-one f views seat v at in omega (arith, r)

pub total-two : (f : View → ℕ) (views : List View) (seat other : ℕ) (v u : View) → other ≢ seat → get_elem? views seat ≡ some v → get_elem? views other ≡ some u → f v + f u ≤ total f views
total-two f [] seat other v u apart at there = absurd (some-ne-none v (sym at))
total-two f (x ∷ views) zero zero v u apart at there = absurd (apart refl)
total-two f (x ∷ views) zero (suc other) v u apart at there = let same : f x ≡ f v = ap f (some-injective x v at) in let r = total-one f views other u there in omega (arith, same, r)
total-two f (x ∷ views) (suc seat) zero v u apart at there = let same : f x ≡ f u = ap f (some-injective x u there) in let r = total-one f views seat v at in omega (arith, same, r)
total-two f (x ∷ views) (suc seat) (suc other) v u apart at there = let r = total-two f views seat other v u (λ e. apart (ap suc e)) at there in omega (arith, r)

pub total-below : (f g : View → ℕ) (views : List View) → ((j : ℕ) (u : View) → get_elem? views j ≡ some u → f u ≤ g u) → total f views ≤ total g views
total-below f g [] below = omega arith
total-below f g (v ∷ views) below = let first = below 0 v refl in let rest = total-below f g views (λ j u at. below (suc j) u at) in omega arith

pub each-set : (P : ℕ → View → Type 0) (views : List View) (seat : ℕ) (w : View) → ((j : ℕ) (u : View) → j ≢ seat → get_elem? views j ≡ some u → P j u) → P seat w
    → (j : ℕ) (u : View) → get_elem? (slice_set views seat w) j ≡ some u → P j u
each-set P views seat w others mine j u at =
    ⊎_elim
    (λ (here : (j ≡ seat) × (w ≡ u)). subst (λ (x : ℕ × View). P x.0 x.1) (λ i. (sym here.0 i, here.1 i)) mine)
    (λ (there : (j ≢ seat) × (get_elem? views j ≡ some u)). others j u there.0 there.1)
    (at_set views seat j w u at)

-- a word that becomes what it is
pub set_same : (words : List ℕ) (i : ℕ) → slice_set words i (slice_index words i) ≡ words
set_same [] i = refl
set_same (x ∷ words) zero = refl
set_same (x ∷ words) (suc i) = ap (λ (l : List ℕ). x ∷ l) (set_same words i)

-- a table of places of which one changes
abbrev pub with_place : (ℕ → ℕ) → (at place : ℕ) → ℕ → ℕ
with_place places at place k = cond (eqb k at) place (places k)

pub place_here : (places : ℕ → ℕ) (at place : ℕ) → with_place places at place at ≡ place
place_here places at place = ap (λ (b : Bool). cond b place (places at)) (eq-eqb at at refl)

pub place_else : (places : ℕ → ℕ) (at place k : ℕ) → k ≢ at → with_place places at place k ≡ places k
place_else places at place k apart = ap (λ (b : Bool). cond b place (places k)) (ne_eqb k at apart)

-- numbers of a list
pub contains-none : (who : ℕ) → Contains [] who → ⊥
contains-none who c = let low = c.1 in omega arith

pub contains-some : (ns : List ℕ) (who : ℕ) → Contains ns who → 1 ≤ length ns
contains-some ns who c = let low = c.1 in omega arith

pub contains-one : (n who : ℕ) → Contains (n ∷ []) who → who ≡ n
contains-one n who (zero, low, is) = sym is
contains-one n who (suc k, low, is) = absurd (omega arith)

pub contains-only : (n : ℕ) → Contains (n ∷ []) n
contains-only n = (0, omega arith, refl)
