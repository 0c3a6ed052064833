-- The last state, where one seat has all numbers.
use Rattle.std.proofs.Common.{◌≡◌, ◌≢◌, ℕ, ◌<◌, ◌≤◌, Bool, true, false, List, length, All, Contains, sym, ap, ◌∙◌, subst, arith}
use Rattle.std.specs.declared.option.Option.{Option as Opt}
use Rattle.std.specs.Prelude.{Some}
use Rattle.std.specs.List.{slice_index_or}
use mathlib.Core.Option.{Option, some, some-injective}
use mathlib.Core.Logic.{dite}
use native.Mathlib.Decide.{ℕ_discrete}
use lib.ListN.{get_elem?}
use Rattle.atomic_table.specs.Table.{State, Final, Seen}
use Rattle.chew_spec_dictionary.specs.Dictionary.{Dictionary}
use Rattle.chew_spec_dictionary.specs.History.{Entry}
use Rattle.chew_cell.specs.View.{View}
use Rattle.chew_cell.specs.Rule.{Slot, Kept, IsKept, IsSightOf, held, tickets, numbers}
use Rattle.chew_cell.proofs.Views.{off, total-two, contains-some}

module _ {S : Type 0} (E : S → List Entry) (F : S → Dictionary) where
  -- the value is at home with the whole history, whose entries are all of numbers of this seat
  pub record IsLast (about : Dictionary × ℕ) (v : View) (slots : List (Opt S)) : Type 0 where
    pub value : S
    pub there : get_elem? slots 0 ≡ some (Some value)
    pub start_is : F value ≡ about.0
    pub sight : IsSightOf (E value) v.sight
    pub known : All (λ (e : Entry). Contains v.sight.numbers e.who) (E value)

  -- one seat has as many numbers as there are seats
  module _ (about : Dictionary × ℕ) (seat : ℕ) (v : View) (s : State (Opt S) View) (k : IsKept E F about s) (at : get_elem? s.views seat ≡ some v) (all : length v.sight.numbers ≡ about.1) where
    -- so no other has one
    no_other : (other : ℕ) (u : View) → other ≢ seat → get_elem? s.views other ≡ some u → 1 ≤ numbers u → ⊥
    no_other other u apart there has =
        let t = total-two numbers s.views seat other v u apart at there in
        let n = k.count in let r = k.room in let a = all in let o = has in omega arith

    -- and it has each
    is_mine : (who : ℕ) → who < k.course.made → Contains v.sight.numbers who
    is_mine who low =
        let stood = k.stands who low in
        dite (ℕ_discrete (k.course.seat_of who) seat)
        (λ here. subst (λ (u : View). Contains u.sight.numbers who) (some-injective _ _ (sym stood.1 ∙ (ap (get_elem? s.views) here ∙ at))) stood.2)
        (λ apart. absurd (no_other (k.course.seat_of who) stood.0 apart stood.1 (contains-some stood.0.sight.numbers who stood.2)))

    -- and the value is at home, since only a seat with a number is called
    at_home : (slots : List (Opt S)) → v.called ≡ false → ((i : ℕ) (y : Opt S) → get_elem? s.homes i ≡ some (some y) → get_elem? slots i ≡ some y)
        → (b : Bool) → Slot E F about k.course.history s.views s.homes b → IsLast about v slots
    at_home slots free told true slot = record {
      value = slot.0;
      there = told 0 (Some slot.0) (ap (λ (homes : List (Option (Opt S))). get_elem? homes 0) slot.1);
      start_is = slot.3;
      sight = subst (λ (h : List Entry). IsSightOf h v.sight) (sym slot.2) (k.each seat v at).sight;
      known = subst (All (λ (e : Entry). Contains v.sight.numbers e.who)) (sym slot.2) (λ i d low. is_mine (slice_index_or k.course.history i d).who (k.known i d low));
    }
    at_home slots free told false slot =
        let theirs = k.each slot.1.0 slot.1.1 slot.1.2 in
        let called = theirs.calls slot.1.3 in
        dite (ℕ_discrete slot.1.0 seat)
        (λ here. absurd (off (sym free ∙ ap (λ (u : View). u.called) (some-injective _ _ (sym at ∙ (ap (get_elem? s.views) (sym here) ∙ slot.1.2))) ∙ slot.1.3)))
        (λ apart. absurd (no_other slot.1.0 slot.1.1 apart slot.1.2 (let n = theirs.numbered in let one : tickets slot.1.1 ≡ 1 = ap held called.0 in omega arith)))

  pub rests : (about : Dictionary × ℕ) (seat : ℕ) (v : View) (words : List ℕ) (slots : List (Opt S)) → length v.sight.numbers ≡ about.1 → v.called ≡ false
      → Final (Seen (Kept E F about) seat v) words slots → IsLast about v slots
  rests about seat v words slots all free last = at_home about seat v last.0 last.1.0 last.1.1 all slots free last.4 last.1.0.course.at_home last.1.0.slot
