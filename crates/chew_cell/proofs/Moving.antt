-- Steps that change one view and keep its numbers.
use Rattle.std.proofs.Common.{◌≡◌, ◌≢◌, ℕ, ◌+◌, ◌<◌, Bool, true, false, List, [], ◌∷◌, ◌++◌, length, All, Contains, slice_set, refl, sym, ap, ◌∙◌, subst, arith}
use Rattle.std.specs.declared.option.Option.{Option as Opt}
use mathlib.Core.Option.{Option, some, some-injective}
use mathlib.Core.Logic.{dite}
use native.Mathlib.Decide.{ℕ_discrete}
use lib.ListN.{get_elem?}
use Rattle.atomic_table.specs.Table.{State}
use Rattle.atomic_table.proofs.Lists.{set_else, at_longer}
use Rattle.chew_spec_dictionary.specs.Dictionary.{Dictionary}
use Rattle.chew_spec_dictionary.specs.History.{Entry}
use Rattle.chew_cell.specs.View.{View}
use Rattle.chew_cell.specs.Rule.{Course, Fits, Slot, IsKept, words_of, tickets, numbers}
use Rattle.chew_cell.proofs.Views.{off, set_there, total-set, each-set}

-- a view of a list with this number
abbrev pub Stands : List View → ℕ → ℕ → Type 0
Stands views seat who = (v : View) × (get_elem? views seat ≡ some v) × Contains v.sight.numbers who

-- a number still stands at its place where one view has at least the numbers that it had
pub stands-set : (views : List View) (seat : ℕ) (v w : View) (place who : ℕ) → get_elem? views seat ≡ some v → (Contains v.sight.numbers who → Contains w.sight.numbers who) → Stands views place who → Stands (slice_set views seat w) place who
stands-set views seat v w place who at keeps stood =
    dite (ℕ_discrete place seat)
    (λ here. (
      w,
      ap (get_elem? (slice_set views seat w)) here ∙ set_there views seat v w at,
      keeps (subst (λ (u : View). Contains u.sight.numbers who) (some-injective _ _ (sym stood.1 ∙ (ap (get_elem? views) here ∙ at))) stood.2),
    ))
    (λ else. (stood.0, set_else views seat place w else ∙ stood.1, stood.2))

module _ {S : Type 0} (E : S → List Entry) (F : S → Dictionary) where
  -- a view that is not called changes
  pub slot-set : (about : Dictionary × ℕ) (history : List Entry) (views : List View) (homes : List (Option (Opt S))) (at_home : Bool) (seat : ℕ) (v w : View)
      → get_elem? views seat ≡ some v → v.called ≡ false → Slot E F about history views homes at_home → Slot E F about history (slice_set views seat w) homes at_home
  slot-set about history views homes true seat v w at free slot = slot
  slot-set about history views homes false seat v w at free slot =
      dite (ℕ_discrete slot.1.0 seat)
      (λ here. absurd (off (sym free ∙ ap (λ (u : View). u.called) (some-injective _ _ (sym at ∙ (ap (get_elem? views) (sym here) ∙ slot.1.2))) ∙ slot.1.3)))
      (λ else. (slot.0, (slot.1.0, slot.1.1, set_else views seat slot.1.0 w else ∙ slot.1.2, slot.1.3)))

  pub slot-push : (about : Dictionary × ℕ) (history : List Entry) (views : List View) (homes : List (Option (Opt S))) (at_home : Bool) (w : View)
      → Slot E F about history views homes at_home → Slot E F about history (views ++ w ∷ []) homes at_home
  slot-push about history views homes true w slot = slot
  slot-push about history views homes false w slot = (slot.0, (slot.1.0, slot.1.1, at_longer views (w ∷ []) slot.1.0 slot.1.1 slot.1.2, slot.1.3))

  -- the view of one seat changes, and with it how far the cell has come
  pub moved : (about : Dictionary × ℕ) (s : State (Opt S) View) (k : IsKept E F about s) (seat : ℕ) (v w : View) (c : Course) (words : List ℕ) (homes : List (Option (Opt S)))
      → get_elem? s.views seat ≡ some v
      → w.sight.numbers ≡ v.sight.numbers
      → c.made ≡ k.course.made
      → c.seat_of ≡ k.course.seat_of
      → words ≡ words_of c
      → Slot E F about c.history (slice_set s.views seat w) homes c.at_home
      → tickets w + c.served + k.course.drawn ≡ tickets v + k.course.served + c.drawn
      → All (λ (e : Entry). e.who < c.made) c.history
      → ((j : ℕ) (u : View) → j ≢ seat → get_elem? s.views j ≡ some u → Fits about c j u)
      → Fits about c seat w
      → IsKept E F about record { words = words; homes = homes; views = slice_set s.views seat w }
  moved about s k seat v w c words homes at same made seats told slot queue known others mine = record {
    course = c;
    words = told;
    slot = slot;
    queue = (let t = total-set tickets s.views seat v w at in let q = k.queue in omega arith);
    count = (let t = total-set numbers s.views seat v w at in let n = k.count in let l : numbers w ≡ numbers v = ap (λ (l : List ℕ). length l) same in omega arith);
    room = (let r = k.room in omega arith);
    few = k.few;
    known = known;
    stands = λ who low. subst (λ (place : ℕ). Stands (slice_set s.views seat w) place who) (ap (λ (f : ℕ → ℕ). f who) (sym seats))
        (stands-set s.views seat v w (k.course.seat_of who) who at (subst (λ (l : List ℕ). Contains l who) (sym same)) (k.stands who (let l = low in omega arith)));
    each = each-set (Fits about c) s.views seat w others mine;
  }

  -- the view of one seat that is not called changes, and nothing else
  pub quiet : (about : Dictionary × ℕ) (s : State (Opt S) View) (k : IsKept E F about s) (seat : ℕ) (v w : View) (words : List ℕ)
      → get_elem? s.views seat ≡ some v → v.called ≡ false → w.sight.numbers ≡ v.sight.numbers → tickets w ≡ tickets v → words ≡ s.words → Fits about k.course seat w
      → IsKept E F about record { words = words; homes = s.homes; views = slice_set s.views seat w }
  quiet about s k seat v w words at free same held told mine =
      moved about s k seat v w k.course words s.homes at same refl refl (told ∙ k.words)
      (slot-set about k.course.history s.views s.homes k.course.at_home seat v w at free k.slot)
      (let h = held in omega arith) k.known (λ j u _ there. k.each j u there) mine
