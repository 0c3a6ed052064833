-- A ticket is drawn, and a seat looks whether it is called.
use Rattle.std.proofs.Common.{◌≡◌, ℕ, ◌+◌, ◌%◌, ◌^◌, ◌<◌, ◌≤◌, Bool, true, false, List, [], ◌∷◌, length, slice_index, slice_set, refl, sym, ap, ◌∙◌, subst, arith}
use Rattle.std.proofs.Math.Nat.{mod-add-mod}
use Rattle.std.specs.declared.option.Option.{Option as Opt}
use Rattle.std.specs.Prelude.{Some}
use mathlib.Core.Option.{Option, none, some-injective}
use mathlib.Core.Logic.{dite}
use native.Mathlib.Decide.{ℕ_discrete}
use lib.ListN.{get_elem?}
use Rattle.atomic_table.specs.Table.{Me, Step, Allows, Act, Valid, stepped, carried_after}
use Rattle.atomic_table.specs.Table.Act.{keeps, takes}
use Rattle.atomic_table.proofs.Lists.{one_turn}
use Rattle.chew_spec_dictionary.specs.Dictionary.{Dictionary}
use Rattle.chew_spec_dictionary.specs.History.{Entry}
use Rattle.chew_cell.specs.View.{Sight, View, sight_of, idle, waiting, in_turn, ticket_of}
use Rattle.chew_cell.specs.Rule.{Course, Slot, Kept, IsSightOf, words_of, tickets, numbers}
use Rattle.chew_cell.specs.Steps.{Drew, Looked}
use Rattle.chew_cell.proofs.Views.{off, same_ticket, set_there, set_same, total-below, with_place, place_here, place_else}
use Rattle.chew_cell.proofs.Sights.{sight-whole}
use Rattle.chew_cell.proofs.Moving.{slot-set, moved, quiet}
use Rattle.chew_cell.proofs.Numbering.{none-old}

module _ {S : Type 0} (E : S → List Entry) (F : S → Dictionary) (slots : ℕ) where
  -- a seat that has a number draws a ticket
  pub draws : (about : Dictionary × ℕ) (seat : ℕ) (its : Dictionary × ℕ) (sight : Sight) (st : Step (Opt S)) → 1 ≤ length sight.numbers
      → Allows (Kept E F about) slots seat (idle its sight, []) 1 (λ n. (n + 1) % 2 ^ 64) (Drew st (idle its sight, []))
  draws about seat its sight st numbered s k len at fit =
      let v = idle its sight in
      let ticket = k.course.drawn in
      let w = waiting its sight ticket in
      let mine = k.each seat v at in
      let c : Course = record k.course { drawn = ticket + 1; seat_with = with_place k.course.seat_with ticket seat } in (
        w,
        keeps,
        tt,
        moved E F about s k seat v w c (slice_set s.words 1 ((slice_index s.words 1 + 1) % 2 ^ 64)) s.homes at refl refl refl
            (subst (λ (words : List ℕ). slice_set words 1 ((slice_index words 1 + 1) % 2 ^ 64) ≡ words_of c) (sym k.words)
            (ap (λ (d : ℕ). length k.course.history ∷ d ∷ k.course.served % 2 ^ 64 ∷ k.course.made ∷ []) (mod-add-mod ticket (2 ^ 64) 1)))
            (slot-set E F about k.course.history s.views s.homes k.course.at_home seat v w at refl k.slot)
            (omega arith)
            k.known
            (λ j u ne there. let f = k.each j u there in record {
              about_is = f.about_is;
              sight = f.sight;
              olds = f.olds;
              owns = f.owns;
              numbered = f.numbered;
              waits = (λ t h. let x = f.waits t h in let below = x.1 in (x.0, (omega arith), place_else k.course.seat_with ticket seat t (λ z. omega arith) ∙ x.2));
              calls = f.calls;
            })
            record {
              about_is = mine.about_is;
              sight = mine.sight;
              olds = none-old c sight.numbers;
              owns = mine.owns;
              numbered = (let n = numbered in omega arith);
              waits = (λ t h. subst (λ (x : ℕ). (k.course.served ≤ x) × (x < ticket + 1) × (with_place k.course.seat_with ticket seat x ≡ seat)) (same_ticket ticket t h)
                  ((let q = k.queue in omega arith), (omega arith), place_here k.course.seat_with ticket seat));
              calls = (λ h. absurd (off h));
            },
        (ticket, refl, ap (λ (words : List ℕ). slice_index words 1) k.words),
      )

  -- a seat that waits looks at the ticket that is served
  pub looks : (about : Dictionary × ℕ) (seat : ℕ) (its : Dictionary × ℕ) (sight : Sight) (t : ℕ) (st : Step (Opt S))
      → Allows (Kept E F about) slots seat (waiting its sight t, []) 2 (λ n. n) (Looked E F st (waiting its sight t, []))
  looks about seat its sight t st s k len at fit =
      let v = waiting its sight t in
      let mine = k.each seat v at in
      let word : slice_index s.words 2 ≡ k.course.served % 2 ^ 64 = ap (λ (words : List ℕ). slice_index words 2) k.words in
      dite (ℕ_discrete (slice_index s.words 2) (t % 2 ^ 64))
      (λ e. hit (turn (sym word ∙ e)) e k.course.at_home refl k.slot)
      (λ ne. (v, keeps, tt, quiet E F about s k seat v v (slice_set s.words 2 (slice_index s.words 2)) at refl refl refl (set_same s.words 2) mine, ((λ e. absurd (ne e)), (λ _. refl))))
    where
      turn : k.course.served % 2 ^ 64 ≡ t % 2 ^ 64 → k.course.served ≡ t
      turn e =
          let w = (k.each seat (waiting its sight t) at).waits t refl in
          let least = w.0 in
          let most = w.1 in
          let below = total-below tickets numbers s.views (λ j u there. (k.each j u there).numbered) in
          let q = k.queue in
          let n = k.count in
          let r = k.room in
          let f = k.few in
          one_turn k.course.served t (2 ^ 64) least (omega arith) e

      hit : k.course.served ≡ t → slice_index s.words 2 ≡ t % 2 ^ 64 → (b : Bool) → k.course.at_home ≡ b → Slot E F about k.course.history s.views s.homes b
          → (w : View) × (a : Act (Opt S)) × Valid s.homes [] a × Kept E F about (stepped s 2 (slice_index s.words 2) seat [] w a) × Looked E F st (waiting its sight t, []) (slice_index s.words 2) (w, carried_after [] a)
      hit now found true is slot =
          let v = waiting its sight t in
          let mine = k.each seat v at in
          let x = slot.0 in
          let w = in_turn its (sight_of (E x) sight.numbers) t in
          let c : Course = record k.course { at_home = false } in (
            w,
            takes 0 (Some x),
            ap (λ (homes : List (Option (Opt S))). get_elem? homes 0) slot.1,
            moved E F about s k seat v w c (slice_set s.words 2 (slice_index s.words 2)) (slice_set s.homes 0 none) at refl refl refl
                (set_same s.words 2 ∙ k.words)
                (ap (λ (homes : List (Option (Opt S))). slice_set homes 0 none) slot.1, (seat, w, set_there s.views seat v w at, refl))
                (omega arith)
                k.known
                (λ j u ne there. let f = k.each j u there in record {
                  about_is = f.about_is;
                  sight = f.sight;
                  olds = f.olds;
                  owns = f.owns;
                  numbered = f.numbered;
                  waits = f.waits;
                  calls = (λ h. let called = f.calls h in (called.0, called.1, refl));
                })
                record {
                  about_is = mine.about_is;
                  sight = subst (λ (h : List Entry). IsSightOf h (sight_of (E x) sight.numbers)) slot.2 (sight-whole (E x) sight.numbers);
                  olds = none-old c sight.numbers;
                  owns = mine.owns;
                  numbered = mine.numbered;
                  waits = mine.waits;
                  calls = (λ _. (ap (λ (n : ℕ). Some n) (sym now), slot.2, refl));
                },
            (
              (λ _. record {
                value = x;
                now = refl;
                start_is = slot.3 ∙ sym (ap (λ (a : Dictionary × ℕ). a.0) (mine.about_is refl));
                seen = subst (λ (h : List Entry). IsSightOf h sight) (sym slot.2) mine.sight;
              }),
              (λ ne. absurd (ne found)),
            ),
          )
      hit now found false is slot =
          let v = waiting its sight t in
          let mine = k.each seat v at in
          let theirs = k.each slot.1.0 slot.1.1 slot.1.2 in
          let called = theirs.calls slot.1.3 in
          let one : slot.1.0 ≡ seat = sym (theirs.waits k.course.served called.0).2 ∙ (ap k.course.seat_with now ∙ (mine.waits t refl).2) in
          absurd (off (ap (λ (u : View). u.called) (some-injective _ _ (sym at ∙ (ap (get_elem? s.views) (sym one) ∙ slot.1.2))) ∙ slot.1.3))

  -- the same of a seat as it is known
  pub draws_as : (about : Dictionary × ℕ) (seat : ℕ) (me : Me (Opt S) View) (st : Step (Opt S)) → me ≡ (idle me.0.about me.0.sight, []) → 1 ≤ length me.0.sight.numbers
      → Allows (Kept E F about) slots seat me 1 (λ n. (n + 1) % 2 ^ 64) (Drew st me)
  draws_as about seat me st is numbered =
      subst (λ (m : Me (Opt S) View). Allows (Kept E F about) slots seat m 1 (λ n. (n + 1) % 2 ^ 64) (Drew st m)) (sym is) (draws about seat me.0.about me.0.sight st numbered)

  pub looks_as : (about : Dictionary × ℕ) (seat : ℕ) (me : Me (Opt S) View) (st : Step (Opt S)) → me ≡ (waiting me.0.about me.0.sight (ticket_of me.0), [])
      → Allows (Kept E F about) slots seat me 2 (λ n. n) (Looked E F st me)
  looks_as about seat me st is =
      subst (λ (m : Me (Opt S) View). Allows (Kept E F about) slots seat m 2 (λ n. n) (Looked E F st m)) (sym is) (looks about seat me.0.about me.0.sight (ticket_of me.0) st)
