-- What each step tells the seat that makes it: of the view and the slot before, the word that was found, and the view and
-- the slot after.
use Rattle.std.specs.Prelude.{◌≡◌, ◌≢◌, ℕ, ◌%◌, ◌^◌, List, [], ◌∷◌, Option, Some, None}
use Rattle.std.specs.Option.{option_map_or}
use mathlib.Core.Option as maybe
use lib.ListN.{get_elem?}
use Rattle.atomic_table.specs.Table.{Me, Step}
use Rattle.chew_spec_dictionary.specs.Dictionary.{Dictionary}
use Rattle.chew_spec_dictionary.specs.History.{Entry}
use Rattle.chew_cell.specs.View.{Sight, View, sight_of, idle, waiting, in_turn, ticket_of}
use Rattle.chew_cell.specs.Rule.{IsSightOf}

module _ {S : Type 0} where
  -- what the seat carries, if anything
  abbrev pub carried_value : List (ℕ × Option S) → Option S
  carried_value [] = None
  carried_value (c ∷ cs) = c.1

  -- a number was taken where the word was that number; else the seat has none
  abbrev pub Numbered : Step (Option S) → Me (Option S) View → ℕ → Me (Option S) View → Type 0
  Numbered step before found after =
      (found ≡ step.first → after ≡ (idle before.0.about (sight_of before.0.sight.seen (step.first ∷ [])), before.1)) × (found ≢ step.first → after ≡ before)

  -- a ticket was drawn
  abbrev pub Drew : Step (Option S) → Me (Option S) View → ℕ → Me (Option S) View → Type 0
  Drew step before found after = (ticket : ℕ) × (after ≡ (waiting before.0.about before.0.sight ticket, before.1)) × (found ≡ ticket % 2 ^ 64)

  -- the old sights are sights of what is seen now
  abbrev pub Learned : Step (Option S) → Me (Option S) View → ℕ → Me (Option S) View → Type 0
  Learned step before found after =
      (after ≡ (idle before.0.about before.0.sight, before.1))
      × ((k : ℕ) (old : Sight) → get_elem? before.0.olds k ≡ maybe.some old → IsSightOf before.0.sight.seen old)

  -- the value went home, and the next seat is called
  abbrev pub CalledNext : Step (Option S) → Me (Option S) View → ℕ → Me (Option S) View → Type 0
  CalledNext step before found after = after ≡ (idle before.0.about before.0.sight, [])

module _ {S : Type 0} (entries : S → List Entry) where
  abbrev pub carried_entries : List (ℕ × Option S) → List Entry
  carried_entries carried = option_map_or entries (carried_value carried) []

  -- the entry that the carried value has more was added
  abbrev pub Added : Step (Option S) → Me (Option S) View → ℕ → Me (Option S) View → Type 0
  Added step before found after = after ≡ (in_turn before.0.about (sight_of (carried_entries before.1) before.0.sight.numbers) (ticket_of before.0), before.1)

module _ {S : Type 0} (entries : S → List Entry) (start : S → Dictionary) where
  -- the seat is called, with the value, whose entries it has seen
  pub record IsCalled (before after : Me (Option S) View) : Type 0 where
    pub value : S
    pub now : after ≡ (in_turn before.0.about (sight_of (entries value) before.0.sight.numbers) (ticket_of before.0), (0, Some value) ∷ [])
    pub start_is : start value ≡ before.0.about.0
    pub seen : IsSightOf (entries value) before.0.sight

  -- where the word is the seat's ticket, it is called; else nothing changed
  abbrev pub Looked : Step (Option S) → Me (Option S) View → ℕ → Me (Option S) View → Type 0
  Looked step before found after = (found ≡ ticket_of before.0 % 2 ^ 64 → IsCalled before after) × (found ≢ ticket_of before.0 % 2 ^ 64 → after ≡ before)
