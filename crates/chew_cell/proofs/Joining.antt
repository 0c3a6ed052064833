-- A seat takes in another, and learns how their sights stand to each other.
use Rattle.std.proofs.Common.{◌≡◌, ◌≢◌, ℕ, zero, suc, ◌≤◌, Bool, false, List, [], ◌∷◌, ◌++◌, length, Contains, slice_index, slice_set, cond, eqb, eq-eqb, ne_eqb, refl, sym, ap, ◌∙◌, subst, ⊎_elim, length-append, arith}
use Rattle.std.proofs.lemmas.List.Elements.{Contains-append_left, Contains-append_right, Contains-append_cases}
use Rattle.std.specs.declared.option.Option.{Option as Opt}
use Rattle.std.specs.Prelude.{None}
use mathlib.Core.Option.{some, some-ne-none, some-injective}
use mathlib.Core.Logic.{dite}
use native.Mathlib.Decide.{ℕ_discrete}
use lib.ListN.{get_elem?}
use Rattle.atomic_table.specs.Table.{Me, Step, Allows, Joins}
use Rattle.atomic_table.specs.Table.Act.{keeps}
use Rattle.atomic_table.proofs.Lists.{at_set, set_else}
use Rattle.chew_spec_dictionary.specs.Dictionary.{Dictionary}
use Rattle.chew_spec_dictionary.specs.History.{Entry}
use Rattle.chew_spec_cell.proofs.Sights.{longer-seen, longer-other}
use Rattle.chew_cell.specs.View.{Sight, View, both, idle, joined, spent_view}
use Rattle.chew_cell.specs.Rule.{Course, Fits, Kept, IsSightOf, held, tickets, numbers}
use Rattle.chew_cell.specs.Steps.{Learned}
use Rattle.chew_cell.proofs.Views.{off, no_ticket, set_there, set_same, total-set, each-set, contains-none}
use Rattle.chew_cell.proofs.Sights.{sight-one, sight-both}
use Rattle.chew_cell.proofs.Moving.{Stands, slot-set, quiet}
use Rattle.chew_cell.proofs.Numbering.{none-old}

-- the seat of each number, once those of one seat have gone to another
abbrev pub merged : (ℕ → ℕ) → (seat other : ℕ) → ℕ → ℕ
merged places seat other who = cond (eqb (places who) other) seat (places who)

merged_there : (places : ℕ → ℕ) (seat other who : ℕ) → places who ≡ other → merged places seat other who ≡ seat
merged_there places seat other who e = ap (λ (b : Bool). cond b seat (places who)) (eq-eqb (places who) other e)

merged_else : (places : ℕ → ℕ) (seat other who : ℕ) → places who ≢ other → merged places seat other who ≡ places who
merged_else places seat other who ne = ap (λ (b : Bool). cond b seat (places who)) (ne_eqb (places who) other ne)

-- the views once a seat has taken in another
abbrev pub views_joined : List View → (seat other : ℕ) → View → List View
views_joined views seat other w = slice_set (slice_set views seat w) other spent_view

module _ {S : Type 0} (E : S → List Entry) (F : S → Dictionary) where
  pub joins : (about : Dictionary × ℕ) (seat : ℕ) (its : Dictionary × ℕ) (sight : Sight) (other : ℕ) (their : Dictionary × ℕ) (sight' : Sight)
      → Joins (Kept E F about) seat (idle its sight) other (idle their sight') (joined (idle its sight) (idle their sight')) spent_view
  joins about seat its sight other their sight' s k at apart there =
      let v = idle its sight in
      let u = idle their sight' in
      let w = joined v u in
      let views = slice_set s.views seat w in
      let mine = k.each seat v at in
      let theirs = k.each other u was in
      let c : Course = record k.course { seat_of = merged k.course.seat_of seat other } in record {
        course = c;
        words = k.words;
        slot = slot-set E F about k.course.history views s.homes k.course.at_home other u spent_view there refl (slot-set E F about k.course.history s.views s.homes k.course.at_home seat v w at refl k.slot);
        queue = (let t = total-set tickets s.views seat v w at in let t' = total-set tickets views other u spent_view there in let q = k.queue in omega arith);
        count = (let t = total-set numbers s.views seat v w at in let t' = total-set numbers views other u spent_view there in let n = k.count in let l = length-append sight.numbers sight'.numbers in omega arith);
        room = k.room;
        few = k.few;
        known = k.known;
        stands = λ who low. stood who (k.stands who low);
        each = each-set (Fits about c) views other spent_view
            (λ j x else e. each-set (λ (i : ℕ) (y : View). i ≢ other → Fits about c i y) s.views seat w
            (λ i y _ e' ne. let f = k.each i y e' in record {
              about_is = f.about_is;
              sight = f.sight;
              olds = f.olds;
              owns = (λ who h. let o = f.owns who h in (o.0, merged_else k.course.seat_of seat other who (λ z. ne (sym o.1 ∙ z)) ∙ o.1));
              numbered = f.numbered;
              waits = f.waits;
              calls = f.calls;
            })
            (λ _. record {
              about_is = mine.about_is;
              sight = sight-both k.course.history sight sight' mine.sight theirs.sight;
              olds = both_olds mine.sight theirs.sight;
              owns = (λ who h. ⊎_elim
                  (λ h. let o = mine.owns who h in (o.0, merged_else k.course.seat_of seat other who (λ z. apart (sym z ∙ o.1)) ∙ o.1))
                  (λ h. let o = theirs.owns who h in (o.0, merged_there k.course.seat_of seat other who o.1))
                  (Contains-append_cases sight.numbers sight'.numbers who h));
              numbered = omega arith;
              waits = (λ ticket h. absurd (no_ticket ticket h));
              calls = (λ h. absurd (off h));
            })
            j x e else)
            record {
              about_is = (λ h. absurd (off (sym h)));
              sight = record { later = k.course.history; joined = refl; none = (λ who h. absurd (contains-none who h)) };
              olds = none-old c [];
              owns = (λ who h. absurd (contains-none who h));
              numbered = omega arith;
              waits = (λ ticket h. absurd (no_ticket ticket h));
              calls = (λ h. absurd (off h));
            };
      }
    where
      was : get_elem? s.views other ≡ some (idle their sight')
      was = ⊎_elim
          (λ (t : (other ≡ seat) × (joined (idle its sight) (idle their sight') ≡ idle their sight')). absurd (apart t.0))
          (λ (t : (other ≢ seat) × (get_elem? s.views other ≡ some (idle their sight'))). t.1)
          (at_set s.views seat other (joined (idle its sight) (idle their sight')) (idle their sight') there)

      both_olds : IsSightOf k.course.history sight → IsSightOf k.course.history sight'
          → (i : ℕ) (old : Sight) → get_elem? (sight ∷ sight' ∷ []) i ≡ some old → IsSightOf k.course.history old × ((who : ℕ) → Contains old.numbers who → Contains (sight.numbers ++ sight'.numbers) who)
      both_olds a b zero old e = subst (λ (z : Sight). IsSightOf k.course.history z × ((who : ℕ) → Contains z.numbers who → Contains (sight.numbers ++ sight'.numbers) who)) (some-injective _ _ e) (a, Contains-append_left sight.numbers sight'.numbers)
      both_olds a b (suc zero) old e = subst (λ (z : Sight). IsSightOf k.course.history z × ((who : ℕ) → Contains z.numbers who → Contains (sight.numbers ++ sight'.numbers) who)) (some-injective _ _ e) (b, Contains-append_right sight.numbers sight'.numbers)
      both_olds a b (suc (suc i)) old e = absurd (some-ne-none old (sym e))

      joined_there : get_elem? (views_joined s.views seat other (joined (idle its sight) (idle their sight'))) seat ≡ some (joined (idle its sight) (idle their sight'))
      joined_there = set_else (slice_set s.views seat (joined (idle its sight) (idle their sight'))) other seat spent_view (λ e. apart (sym e)) ∙ set_there s.views seat (idle its sight) (joined (idle its sight) (idle their sight')) at

      stood : (who : ℕ) → Stands s.views (k.course.seat_of who) who → Stands (views_joined s.views seat other (joined (idle its sight) (idle their sight'))) (merged k.course.seat_of seat other who) who
      stood who st =
          dite (ℕ_discrete (k.course.seat_of who) other)
          (λ e. subst (λ (place : ℕ). Stands (views_joined s.views seat other (joined (idle its sight) (idle their sight'))) place who) (sym (merged_there k.course.seat_of seat other who e)) (
            joined (idle its sight) (idle their sight'),
            joined_there,
            Contains-append_right sight.numbers sight'.numbers who (subst (λ (x : View). Contains x.sight.numbers who) (some-injective _ _ (sym st.1 ∙ (ap (get_elem? s.views) e ∙ was))) st.2),
          ))
          (λ ne. subst (λ (place : ℕ). Stands (views_joined s.views seat other (joined (idle its sight) (idle their sight'))) place who) (sym (merged_else k.course.seat_of seat other who ne)) (dite (ℕ_discrete (k.course.seat_of who) seat)
          (λ e. subst (λ (place : ℕ). Stands (views_joined s.views seat other (joined (idle its sight) (idle their sight'))) place who) (sym e) (
            joined (idle its sight) (idle their sight'),
            joined_there,
            Contains-append_left sight.numbers sight'.numbers who (subst (λ (x : View). Contains x.sight.numbers who) (some-injective _ _ (sym st.1 ∙ (ap (get_elem? s.views) e ∙ at))) st.2),
          ))
          (λ ne'. (st.0, set_else (slice_set s.views seat (joined (idle its sight) (idle their sight'))) other (k.course.seat_of who) spent_view ne ∙ (set_else s.views seat (k.course.seat_of who) (joined (idle its sight) (idle their sight')) ne' ∙ st.1), st.2))))

  -- a seat with old sights no longer than its own learns that they are sights of it
  pub learns : (slots : ℕ) (about : Dictionary × ℕ) (seat : ℕ) (v : View) (st : Step (Opt S)) → v.spent ≡ false → v.ticket ≡ None → v.called ≡ false
      → ((i : ℕ) (old : Sight) → get_elem? v.olds i ≡ some old → length old.seen ≤ length v.sight.seen)
      → Allows (Kept E F about) slots seat (v, []) 0 (λ n. n) (Learned st (v, []))
  learns slots about seat v st live free idle' short s k len at fit =
      let w = idle v.about v.sight in
      let mine = k.each seat v at in (
        w,
        keeps,
        tt,
        quiet E F about s k seat v w (slice_set s.words 0 (slice_index s.words 0)) at idle' refl (sym none_held) (set_same s.words 0)
            record {
              about_is = (λ _. mine.about_is live);
              sight = mine.sight;
              olds = none-old k.course v.sight.numbers;
              owns = mine.owns;
              numbered = omega arith;
              waits = (λ ticket h. absurd (no_ticket ticket h));
              calls = (λ h. absurd (off h));
            },
        (refl, λ i old e. sight-one k.course.history old v.sight (mine.olds i old e).0 mine.sight (short i old e)),
      )
    where
      none_held : tickets v ≡ 0
      none_held = ap held free

  -- the same of seats as they are known
  pub joins_as : (about : Dictionary × ℕ) (seat other : ℕ) (v u : View) → v ≡ idle v.about v.sight → u ≡ idle u.about u.sight → Joins (Kept E F about) seat v other u (joined v u) spent_view
  joins_as about seat other v u is is' =
      subst (λ (z : View × View). Joins (Kept E F about) seat z.0 other z.1 (joined z.0 z.1) spent_view) (λ i. (sym is i, sym is' i)) (joins about seat v.about v.sight other u.about u.sight)

  pub learns_as : (slots : ℕ) (about : Dictionary × ℕ) (seat : ℕ) (v u : View) (me : Me (Opt S) View) (st : Step (Opt S)) → me ≡ (joined v u, []) → Allows (Kept E F about) slots seat me 0 (λ n. n) (Learned st me)
  learns_as slots about seat v u me st is =
      subst (λ (m : Me (Opt S) View). Allows (Kept E F about) slots seat m 0 (λ n. n) (Learned st m)) (sym is) (learns slots about seat (joined v u) st refl refl refl short)
    where
      short : (i : ℕ) (old : Sight) → get_elem? (v.sight ∷ u.sight ∷ []) i ≡ some old → length old.seen ≤ length (both v.sight u.sight).seen
      short zero old e = subst (λ (z : Sight). length z.seen ≤ length (both v.sight u.sight).seen) (some-injective _ _ e) (longer-seen v.sight.seen u.sight.seen)
      short (suc zero) old e = subst (λ (z : Sight). length z.seen ≤ length (both v.sight u.sight).seen) (some-injective _ _ e) (longer-other v.sight.seen u.sight.seen)
      short (suc (suc i)) old e = absurd (some-ne-none old (sym e))

-- what the two seats of a join have learned
module _ {S : Type 0} where
  pub learned : (v u : View) (before after : Me (Opt S) View) (found : ℕ) (st : Step (Opt S)) → before ≡ (joined v u, []) → Learned st before found after
      → (after ≡ (idle v.about (both v.sight u.sight), [])) × IsSightOf (both v.sight u.sight).seen v.sight × IsSightOf (both v.sight u.sight).seen u.sight
  learned v u before after found st is told =
      let t : Learned st (joined v u, []) found after = subst (λ (m : Me (Opt S) View). Learned st m found after) is told in
      (t.0, t.1 0 v.sight refl, t.1 1 u.sight refl)
