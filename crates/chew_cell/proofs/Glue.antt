-- What the functions of a turn say, put together.
use Rattle.std.proofs.Common.{◌≡◌, ℕ, ◌%◌, ◌^◌, List, [], ◌∷◌, refl, sym, ap, ◌∙◌, subst}
use Rattle.std.specs.declared.option.Option.{Option as Opt}
use Rattle.std.specs.Prelude.{Some, None, unwrap_or, is_some}
use Rattle.atomic_table.specs.Table.{Me, Step, rest}
use Rattle.chew_spec_dictionary.specs.Dictionary.{Dictionary}
use Rattle.chew_spec_dictionary.specs.History.{Entry}
use Rattle.chew_cell.specs.View.{Sight, View, sight_of, waiting, in_turn, ticket_of}
use Rattle.chew_cell.specs.Rule.{IsSightOf}
use Rattle.chew_cell.specs.Steps.{Drew, IsCalled, carried_value, carried_entries}
use Rattle.chew_cell.proofs.Views.{off}
use Rattle.chew_cell.specs.Seats.{IsIdle, IsWaiting, IsInTurn, IsEntered}

module _ {S : Type 0} where
  -- a ticket was drawn by an idle seat
  pub drew-waits : (before after : Me (Opt S) View) (found : ℕ) (st : Step (Opt S)) → IsIdle before → Drew st before found after → IsWaiting after found
  drew-waits before after found st idle' drew =
      let is : after ≡ (waiting before.0.about before.0.sight drew.0, []) = drew.1 ∙ ap (λ (l : List (ℕ × Opt S)). (waiting before.0.about before.0.sight drew.0, l)) (ap (λ (m : Me (Opt S) View). m.1) idle') in (
        subst (λ (m : Me (Opt S) View). m ≡ (waiting m.0.about m.0.sight (ticket_of m.0), [])) (sym is) refl,
        drew.2 ∙ ap (λ (m : Me (Opt S) View). ticket_of m.0 % 2 ^ 64) (sym is),
      )

  pub drew-same : (before after : Me (Opt S) View) (found : ℕ) (st : Step (Opt S)) → Drew st before found after → (after.0.about ≡ before.0.about) × (after.0.sight ≡ before.0.sight)
  drew-same before after found st drew = (ap (λ (m : Me (Opt S) View). m.0.about) drew.1, ap (λ (m : Me (Opt S) View). m.0.sight) drew.1)

  pub one-inside : (x y : S) → Some x ≡ Some y → x ≡ y
  one-inside x y e = ap (λ (o : Opt S). unwrap_or o x) e

  pub none-inside : (x : S) → None ≡ Some x → ⊥
  none-inside x e = off (ap (λ (o : Opt S). is_some o) e)

  pub one-value : (carried : List (ℕ × Opt S)) (x y : S) → carried ≡ (0, Some x) ∷ [] → carried ≡ (0, Some y) ∷ [] → x ≡ y
  one-value carried x y e f = ap (λ (c : List (ℕ × Opt S)). unwrap_or (carried_value c) x) (sym e ∙ f)

module _ {S : Type 0} (E : S → List Entry) (F : S → Dictionary) where
  -- a seat that drew a ticket was called with the value, and took it
  pub entered : (before drawn called after : Me (Opt S) View) (value : S) → (drawn.0.about ≡ before.0.about) × (drawn.0.sight ≡ before.0.sight) → IsCalled E F drawn called → called.1 ≡ (0, Some value) ∷ [] → after ≡ (called.0, (0, None) ∷ [])
      → IsEntered E F before after value
  entered before drawn called after value same is carried took =
      let one : is.value ≡ value = one-value called.1 is.value value (ap (λ (m : Me (Opt S) View). m.1) is.now) carried in record {
        ticket = ticket_of drawn.0;
        now = took ∙ ap (λ (v : View). (v, (0, None) ∷ [])) (ap (λ (m : Me (Opt S) View). m.0) is.now
            ∙ (λ i. in_turn (same.0 i) (sight_of (E (one i)) (same.1 i).numbers) (ticket_of drawn.0)));
        start_is = ap F (sym one) ∙ is.start_is ∙ ap (λ (a : Dictionary × ℕ). a.0) same.0;
        seen = subst (λ (z : List Entry × Sight). IsSightOf z.0 z.1) (λ i. (E (one i), same.1 i)) is.seen;
      }

  -- a seat in its turn took this value back and counted its entry
  pub recorded : (before put after : Me (Opt S) View) (value : S) → IsInTurn before None → put ≡ (before.0, (0, Some value) ∷ rest before.1)
      → after ≡ (in_turn put.0.about (sight_of (carried_entries E put.1) put.0.sight.numbers) (ticket_of put.0), put.1)
      → after ≡ (in_turn before.0.about (sight_of (E value) before.0.sight.numbers) (ticket_of before.0), (0, Some value) ∷ [])
  recorded before put after value turn is seen =
      let bare : put ≡ (before.0, (0, Some value) ∷ []) = is ∙ ap (λ (l : List (ℕ × Opt S)). (before.0, (0, Some value) ∷ rest l)) (ap (λ (m : Me (Opt S) View). m.1) turn) in
      seen ∙ ap (λ (m : Me (Opt S) View). (in_turn m.0.about (sight_of (carried_entries E m.1) m.0.sight.numbers) (ticket_of m.0), m.1)) bare
