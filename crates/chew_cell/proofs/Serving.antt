-- An entry is added, and the next seat is called.
use Rattle.std.proofs.Common.{◌≡◌, ◌≢◌, ℕ, zero, suc, ◌+◌, ◌%◌, ◌^◌, ◌<◌, true, false, List, [], ◌∷◌, ◌++◌, length, All, Contains, slice_index, slice_set, refl, sym, ap, ◌∙◌, subst, length-append, mod-eq_of_lt, arith}
use Rattle.std.proofs.Math.Nat.{mod-add-mod}
use Rattle.std.proofs.lemmas.List.Elements.{All-append}
use Rattle.std.specs.declared.option.Option.{Option as Opt}
use Rattle.std.specs.Prelude.{Some}
use mathlib.Core.Option.{Option, some}
use Rattle.atomic_table.specs.Table.{Me, Step, Allows}
use Rattle.atomic_table.specs.Table.Act.{keeps, gives}
use Rattle.chew_spec_dictionary.specs.Dictionary.{Dictionary}
use Rattle.chew_spec_dictionary.specs.History.{Entry}
use Rattle.chew_cell.specs.View.{Sight, View, sight_of, idle, in_turn, ticket_of}
use Rattle.chew_cell.specs.Rule.{Course, Slot, Kept, IsSightOf, words_of}
use Rattle.chew_cell.specs.Steps.{Added, CalledNext}
use Rattle.chew_cell.proofs.Views.{off, no_ticket, same_ticket, set_there}
use Rattle.chew_cell.proofs.Sights.{sight-whole, sight-others}
use Rattle.chew_cell.proofs.Moving.{moved}
use Rattle.chew_cell.proofs.Numbering.{none-old}

module _ {S : Type 0} (E : S → List Entry) (F : S → Dictionary) (slots : ℕ) where
  -- the called seat, whose value has one more entry of its number, counts it
  pub adds : (about : Dictionary × ℕ) (seat : ℕ) (its : Dictionary × ℕ) (sight : Sight) (t : ℕ) (x : S) (e : Entry) (st : Step (Opt S))
      → E x ≡ sight.seen ++ e ∷ [] → Contains sight.numbers e.who → length (E x) < 2 ^ 64
      → Allows (Kept E F about) slots seat (in_turn its sight t, (0, Some x) ∷ []) 0 (λ n. (n + 1) % 2 ^ 64) (Added E st (in_turn its sight t, (0, Some x) ∷ []))
  adds about seat its sight t x e st more own short s k len at fit =
      let v = in_turn its sight t in
      let w = in_turn its (sight_of (E x) sight.numbers) t in
      let mine = k.each seat v at in
      let called = mine.calls refl in
      let longer : E x ≡ k.course.history ++ e ∷ [] = more ∙ ap (λ (l : List Entry). l ++ e ∷ []) called.1 in
      let c : Course = record k.course { history = E x; at_home = false } in
      let count : (length k.course.history + 1) % 2 ^ 64 ≡ length (E x) = (
      let l = ap (λ (l : List Entry). length l) longer in
      let m = length-append k.course.history (e ∷ []) in
      let a : length k.course.history + 1 ≡ length (E x) = omega (arith) in
      ap (λ (n : ℕ). n % 2 ^ 64) a ∙ mod-eq_of_lt short) in
      let out : Slot E F about k.course.history s.views s.homes false = subst (Slot E F about k.course.history s.views s.homes) called.2 k.slot in (
        w,
        keeps,
        tt,
        moved E F about s k seat v w c (slice_set s.words 0 ((slice_index s.words 0 + 1) % 2 ^ 64)) s.homes at refl refl refl
            (subst (λ (words : List ℕ). slice_set words 0 ((slice_index words 0 + 1) % 2 ^ 64) ≡ words_of c) (sym k.words)
            (ap (λ (n : ℕ). n ∷ k.course.drawn % 2 ^ 64 ∷ k.course.served % 2 ^ 64 ∷ k.course.made ∷ []) count))
            (out.0, (seat, w, set_there s.views seat v w at, refl))
            (omega arith)
            (subst (All (λ (e : Entry). e.who < k.course.made)) (sym longer)
            (All-append (λ (e : Entry). e.who < k.course.made) k.course.history (e ∷ []) k.known (one_known (mine.owns e.who own).0)))
            (λ j u ne there. let f = k.each j u there in record {
              about_is = f.about_is;
              sight = grown j ne u.sight f.sight f.owns;
              olds = (λ i old there'. let o = f.olds i old there' in (grown j ne old o.0 (λ who h. f.owns who (o.1 who h)), o.1));
              owns = f.owns;
              numbered = f.numbered;
              waits = f.waits;
              calls = (λ h. let theirs = f.calls h in absurd (ne (sym (f.waits k.course.served theirs.0).2 ∙ (ap k.course.seat_with (sym (same_ticket t k.course.served called.0)) ∙ (mine.waits t refl).2))));
            })
            record {
              about_is = mine.about_is;
              sight = sight-whole (E x) sight.numbers;
              olds = none-old c sight.numbers;
              owns = mine.owns;
              numbered = mine.numbered;
              waits = mine.waits;
              calls = (λ _. (called.0, refl, refl));
            },
        refl,
      )
    where
      one_known : e.who < k.course.made → All (λ (e : Entry). e.who < k.course.made) (e ∷ [])
      one_known low zero d l = low
      one_known low (suc i) d l = absurd (omega arith)

      grown : (j : ℕ) → j ≢ seat → (old : Sight) → IsSightOf k.course.history old → ((who : ℕ) → Contains old.numbers who → (who < k.course.made) × (k.course.seat_of who ≡ j)) → IsSightOf (E x) old
      grown j ne old is owns =
          let mine = k.each seat (in_turn its sight t) at in
          subst (λ (h : List Entry). IsSightOf h old) (sym (more ∙ ap (λ (l : List Entry). l ++ e ∷ []) (mine.calls refl).1))
          (sight-others k.course.history old e is (λ who h same. ne (sym (owns who h).1 ∙ (ap k.course.seat_of (sym same) ∙ (mine.owns e.who own).1))))

  -- the called seat, which has seen the value's entries, gives it back and calls the next
  pub calls_next : (about : Dictionary × ℕ) (seat : ℕ) (its : Dictionary × ℕ) (sight : Sight) (t : ℕ) (x : S) (st : Step (Opt S)) → E x ≡ sight.seen → F x ≡ its.0
      → Allows (Kept E F about) slots seat (in_turn its sight t, (0, Some x) ∷ []) 2 (λ n. (n + 1) % 2 ^ 64) (CalledNext st (in_turn its sight t, (0, Some x) ∷ []))
  calls_next about seat its sight t x st same starts s k len at fit =
      let v = in_turn its sight t in
      let w = idle its sight in
      let mine = k.each seat v at in
      let called = mine.calls refl in
      let c : Course = record k.course { served = k.course.served + 1; at_home = true } in
      let out : Slot E F about k.course.history s.views s.homes false = subst (Slot E F about k.course.history s.views s.homes) called.2 k.slot in (
        w,
        gives,
        tt,
        moved E F about s k seat v w c (slice_set s.words 2 ((slice_index s.words 2 + 1) % 2 ^ 64)) (slice_set s.homes 0 (some (Some x))) at refl refl refl
            (subst (λ (words : List ℕ). slice_set words 2 ((slice_index words 2 + 1) % 2 ^ 64) ≡ words_of c) (sym k.words)
            (ap (λ (n : ℕ). length k.course.history ∷ k.course.drawn % 2 ^ 64 ∷ n ∷ k.course.made ∷ []) (mod-add-mod k.course.served (2 ^ 64) 1)))
            (x, ap (λ (homes : List (Option (Opt S))). slice_set homes 0 (some (Some x))) out.0, same ∙ called.1, starts ∙ ap (λ (a : Dictionary × ℕ). a.0) (mine.about_is refl))
            (omega arith)
            k.known
            (λ j u ne there.
            let f = k.each j u there in
            let apart : (ticket : ℕ) → u.ticket ≡ Some ticket → ticket ≢ k.course.served = (λ ticket h z. ne (sym (f.waits ticket h).2 ∙ (ap k.course.seat_with (z ∙ sym (same_ticket t k.course.served called.0)) ∙ (mine.waits t refl).2))) in record {
              about_is = f.about_is;
              sight = f.sight;
              olds = f.olds;
              owns = f.owns;
              numbered = f.numbered;
              waits = (λ ticket h. let x = f.waits ticket h in let a = apart ticket h in ((let least = x.0 in omega arith), x.1, x.2));
              calls = (λ h. let theirs = f.calls h in absurd (apart k.course.served theirs.0 refl));
            })
            record {
              about_is = mine.about_is;
              sight = mine.sight;
              olds = none-old c sight.numbers;
              owns = mine.owns;
              numbered = omega arith;
              waits = (λ ticket h. absurd (no_ticket ticket h));
              calls = (λ h. absurd (off h));
            },
        refl,
      )

  -- the same of a seat as it is known
  pub adds_as : (about : Dictionary × ℕ) (seat : ℕ) (me : Me (Opt S) View) (x : S) (e : Entry) (st : Step (Opt S)) → me ≡ (in_turn me.0.about me.0.sight (ticket_of me.0), (0, Some x) ∷ [])
      → E x ≡ me.0.sight.seen ++ e ∷ [] → Contains me.0.sight.numbers e.who → length (E x) < 2 ^ 64
      → Allows (Kept E F about) slots seat me 0 (λ n. (n + 1) % 2 ^ 64) (Added E st me)
  adds_as about seat me x e st is more own short =
      subst (λ (m : Me (Opt S) View). Allows (Kept E F about) slots seat m 0 (λ n. (n + 1) % 2 ^ 64) (Added E st m)) (sym is)
      (adds about seat me.0.about me.0.sight (ticket_of me.0) x e st more own short)

  pub calls_next_as : (about : Dictionary × ℕ) (seat : ℕ) (me : Me (Opt S) View) (x : S) (st : Step (Opt S)) → me ≡ (in_turn me.0.about me.0.sight (ticket_of me.0), (0, Some x) ∷ [])
      → E x ≡ me.0.sight.seen → F x ≡ me.0.about.0 → Allows (Kept E F about) slots seat me 2 (λ n. (n + 1) % 2 ^ 64) (CalledNext st me)
  calls_next_as about seat me x st is same starts =
      subst (λ (m : Me (Opt S) View). Allows (Kept E F about) slots seat m 2 (λ n. (n + 1) % 2 ^ 64) (CalledNext st m)) (sym is)
      (calls_next about seat me.0.about me.0.sight (ticket_of me.0) x st same starts)
