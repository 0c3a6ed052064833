-- A new table, seats that are split off, and numbers that are taken.
use Rattle.std.proofs.Common.{◌≡◌, ◌≢◌, ℕ, zero, suc, ◌+◌, ◌^◌, ◌<◌, ◌==◌, true, List, [], ◌∷◌, ◌++◌, All, Contains, slice_index, slice_set, refl, sym, ap, ◌∙◌, subst, ⊎_elim, arith}
use Rattle.std.specs.declared.option.Option.{Option as Opt}
use Rattle.std.specs.Prelude.{Some}
use mathlib.Core.Option.{some, none, some-ne-none, some-injective}
use mathlib.Core.Logic.{dite}
use native.Mathlib.Decide.{ℕ_discrete}
use lib.ListN.{get_elem?}
use prog.Atomic.{either}
use Rattle.atomic_table.specs.Table.{Me, step, opening, Allows, Splits, Act, Valid, stepped, carried_after}
use Rattle.atomic_table.specs.Table.Act.{keeps}
use Rattle.atomic_table.proofs.Lists.{at_longer, at_snoc, set_again, set_else, exchanged}
use Rattle.chew_spec_dictionary.specs.Dictionary.{Dictionary}
use Rattle.chew_spec_dictionary.specs.History.{Entry}
use Rattle.chew_cell.specs.View.{Sight, View, sight_of, nothing_seen, idle, note_of}
use Rattle.chew_cell.specs.Rule.{Course, Fits, Kept, IsSightOf, words_of, tickets, numbers}
use Rattle.chew_cell.specs.Steps.{Numbered}
use Rattle.chew_cell.proofs.Views.{off, no_ticket, set_there, set_same, total-set, total-push, each-set, with_place, place_here, place_else, contains-none, contains-one, contains-only}
use Rattle.chew_cell.proofs.Sights.{sight-whole, sight-bare, sight-new}
use Rattle.chew_cell.proofs.Moving.{Stands, slot-set, slot-push, quiet}

-- no old sights
abbrev pub no_olds : List Sight
no_olds = []

pub none-old : (c : Course) (ns : List ℕ) (k : ℕ) (old : Sight) → get_elem? no_olds k ≡ some old → IsSightOf c.history old × ((who : ℕ) → Contains old.numbers who → Contains ns who)
none-old c ns k old at = absurd (some-ne-none old (sym at))

-- an idle view fits where its sight does
pub fits-idle : (about : Dictionary × ℕ) (c : Course) (seat : ℕ) (sight : Sight) → IsSightOf c.history sight
    → ((who : ℕ) → Contains sight.numbers who → (who < c.made) × (c.seat_of who ≡ seat)) → Fits about c seat (idle about sight)
fits-idle about c seat sight s owns = record {
  about_is = (λ _. refl);
  sight = s;
  olds = none-old c sight.numbers;
  owns = owns;
  numbered = omega arith;
  waits = (λ ticket h. absurd (no_ticket ticket h));
  calls = (λ h. absurd (off h));
}

-- where every cell begins
abbrev pub first_course : Course
first_course = record { history = []; drawn = 0; served = 0; made = 0; seat_with = λ _. 0; seat_of = λ _. 0; at_home = true }

module _ {S : Type 0} (E : S → List Entry) (F : S → Dictionary) (slots : ℕ) where
  -- a table as it opens
  pub opens : (about : Dictionary × ℕ) (value : S) → E value ≡ [] → F value ≡ about.0 → about.1 < 2 ^ 32
      → Kept E F about (opening (0 ∷ 0 ∷ 0 ∷ 0 ∷ []) (Some value ∷ []) (idle about nothing_seen))
  opens about value empty starts few = record {
    course = first_course;
    words = refl;
    slot = (value, refl, empty, starts);
    queue = refl;
    count = refl;
    room = omega arith;
    few = few;
    known = λ k d low. absurd (omega arith);
    stands = λ who low. absurd (omega arith);
    each = one;
  }
    where
      one : (seat : ℕ) (v : View) → get_elem? (idle about nothing_seen ∷ []) seat ≡ some v → Fits about first_course seat v
      one zero v at = subst (Fits about first_course 0) (some-injective _ _ at) (fits-idle about first_course 0 nothing_seen (sight-whole [] []) (λ who c. absurd (contains-none who c)))
      one (suc seat) v at = absurd (some-ne-none v (sym at))

  -- a seat is split off
  pub splits : (about : Dictionary × ℕ) (seat : ℕ) (its : Dictionary × ℕ) (sight : Sight) → Splits (Kept E F about) seat (idle its sight) (idle its sight) (note_of (idle its sight))
  splits about seat its sight s k at =
      let v = idle its sight in
      let w = idle its (sight_of sight.seen []) in
      let mine = k.each seat v at in
      let same : slice_set s.views seat v ≡ s.views = set_again s.views seat v at in
      let is : its ≡ about = mine.about_is refl in
      subst (λ (views : List View). Kept E F about record { words = s.words; homes = s.homes; views = views ++ w ∷ [] }) (sym same)
      record {
        course = k.course;
        words = k.words;
        slot = slot-push E F about k.course.history s.views s.homes k.course.at_home w k.slot;
        queue = (let t = total-push tickets s.views w in let q = k.queue in omega arith);
        count = (let t = total-push numbers s.views w in let n = k.count in omega arith);
        room = k.room;
        few = k.few;
        known = k.known;
        stands = λ who low. let stood = k.stands who low in (stood.0, at_longer s.views (w ∷ []) (k.course.seat_of who) stood.0 stood.1, stood.2);
        each = λ j u there. ⊎_elim
            (λ was. k.each j u was)
            (λ new. subst (Fits about k.course j) (ap (λ (a : Dictionary × ℕ). idle a (sight_of sight.seen [])) (sym is) ∙ new)
            (fits-idle about k.course j (sight_of sight.seen []) (sight-bare k.course.history sight mine.sight) (λ who c. absurd (contains-none who c))))
            (at_snoc s.views w u j there);
      }

  -- a seat without a number takes one
  pub numbers_one : (about : Dictionary × ℕ) (seat : ℕ) (its : Dictionary × ℕ) (seen : List Entry) (n : ℕ) → n < about.1
      → Allows (Kept E F about) slots seat (idle its (sight_of seen []), []) 3 (λ found. either (found == n) (n + 1) found) (Numbered (step slots 3 n (n + 1) none) (idle its (sight_of seen []), []))
  numbers_one about seat its seen n low s k len at fit =
      let word : slice_index s.words 3 ≡ k.course.made = ap (λ (words : List ℕ). slice_index words 3) k.words in
      exchanged (slice_index s.words 3) n (n + 1)
      (λ z. (w : View) × (a : Act (Opt S)) × Valid s.homes [] a × Kept E F about (stepped s 3 z seat [] w a) × Numbered (step slots 3 n (n + 1) none) (idle its (sight_of seen []), []) (slice_index s.words 3) (w, carried_after [] a))
      (λ e. taken (sym word ∙ e) e)
      (λ ne. let v = idle its (sight_of seen []) in (v, keeps, tt, quiet E F about s k seat v v (slice_set s.words 3 (slice_index s.words 3)) at refl refl refl (set_same s.words 3) (k.each seat v at), ((λ e. absurd (ne e)), (λ _. refl))))
    where
      taken : k.course.made ≡ n → slice_index s.words 3 ≡ n
          → (w : View) × (a : Act (Opt S)) × Valid s.homes [] a × Kept E F about (stepped s 3 (n + 1) seat [] w a) × Numbered (step slots 3 n (n + 1) none) (idle its (sight_of seen []), []) (slice_index s.words 3) (w, carried_after [] a)
      taken is found =
          let v = idle its (sight_of seen []) in
          let mine = k.each seat v at in
          let w = idle its (sight_of seen (n ∷ [])) in
          let same : its ≡ about = mine.about_is refl in
          let c : Course = record k.course { made = n + 1; seat_of = with_place k.course.seat_of n seat } in
          let known : All (λ (e : Entry). e.who < n) k.course.history = subst (λ (m : ℕ). All (λ (e : Entry). e.who < m) k.course.history) is k.known in (
            w,
            keeps,
            tt,
            record {
              course = c;
              words = subst (λ (words : List ℕ). slice_set words 3 (n + 1) ≡ words_of c) (sym k.words) refl;
              slot = slot-set E F about k.course.history s.views s.homes k.course.at_home seat v w at refl k.slot;
              queue = (let t = total-set tickets s.views seat v w at in let q = k.queue in omega arith);
              count = (let t = total-set numbers s.views seat v w at in let q = k.count in omega arith);
              room = omega arith;
              few = k.few;
              known = λ i d l. (let below = known i d l in omega arith);
              stands = λ who l. dite (ℕ_discrete who n)
                  (λ e. subst (λ (m : ℕ). Stands (slice_set s.views seat w) (with_place k.course.seat_of n seat m) m) (sym e)
                  (subst (λ (place : ℕ). Stands (slice_set s.views seat w) place n) (sym (place_here k.course.seat_of n seat)) (w, set_there s.views seat v w at, contains-only n)))
                  (λ ne. subst (λ (place : ℕ). Stands (slice_set s.views seat w) place who) (sym (place_else k.course.seat_of n seat who ne)) (still who (k.stands who (let a = l in omega arith))));
              each = each-set (Fits about c) s.views seat w
                  (λ j u ne there. let f = k.each j u there in record {
                    about_is = f.about_is;
                    sight = f.sight;
                    olds = f.olds;
                    owns = (λ who c. moved j who (f.owns who c));
                    numbered = f.numbered;
                    waits = f.waits;
                    calls = f.calls;
                  })
                  (subst (λ (a : Dictionary × ℕ). Fits about c seat (idle a (sight_of seen (n ∷ [])))) (sym same)
                  (fits-idle about c seat (sight_of seen (n ∷ [])) (sight-new n k.course.history seen [] known mine.sight)
                  (λ who c'. let e : who ≡ n = contains-one n who c' in ((omega arith), ap (with_place k.course.seat_of n seat) e ∙ place_here k.course.seat_of n seat))));
            },
            ((λ _. refl), (λ ne. absurd (ne found))),
          )
        where
          moved : (j who : ℕ) → (who < k.course.made) × (k.course.seat_of who ≡ j) → (who < n + 1) × (with_place k.course.seat_of n seat who ≡ j)
          moved j who h = let a = h.0 in ((omega arith), place_else k.course.seat_of n seat who (λ e. omega arith) ∙ h.1)

          still : (who : ℕ) → Stands s.views (k.course.seat_of who) who → Stands (slice_set s.views seat (idle its (sight_of seen (n ∷ [])))) (k.course.seat_of who) who
          still who stood =
              let apart : k.course.seat_of who ≢ seat = (λ here. contains-none who (subst (λ (u : View). Contains u.sight.numbers who) (some-injective _ _ (sym stood.1 ∙ (ap (get_elem? s.views) here ∙ at))) stood.2)) in
              (stood.0, set_else s.views seat (k.course.seat_of who) (idle its (sight_of seen (n ∷ []))) apart ∙ stood.1, stood.2)

  -- the same of a seat as it is known
  pub splits_as : (about : Dictionary × ℕ) (seat : ℕ) (v : View) → v ≡ idle v.about v.sight → Splits (Kept E F about) seat v v (note_of v)
  splits_as about seat v is = subst (λ (u : View). Splits (Kept E F about) seat u u (note_of u)) (sym is) (splits about seat v.about v.sight)

  pub numbers_as : (about : Dictionary × ℕ) (seat n : ℕ) (me : Me (Opt S) View) → me ≡ (idle me.0.about (sight_of me.0.sight.seen []), []) → n < about.1
      → Allows (Kept E F about) slots seat me 3 (λ found. either (found == n) (n + 1) found) (Numbered (step slots 3 n (n + 1) none) me)
  numbers_as about seat n me is low =
      subst (λ (m : Me (Opt S) View). Allows (Kept E F about) slots seat m 3 (λ found. either (found == n) (n + 1) found) (Numbered (step slots 3 n (n + 1) none) m)) (sym is)
      (numbers_one about seat me.0.about me.0.sight.seen n low)
