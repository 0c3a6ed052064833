-- What the functions of the cell say of a seat, and what a pass is of one.
use Rattle.std.specs.Prelude.{◌≡◌, ◌⊎◌, ℕ, ◌+◌, ◌%◌, ◌^◌, Bool, true, false, List, [], ◌∷◌, ◌++◌, length, map, All, Contains, Option, None}
use Rattle.atomic_table.specs.Table.{Me}
use Rattle.atomic_table.specs.Seated.{TableId}
use Rattle.chew_spec_dictionary.specs.Dictionary.{Dictionary}
use Rattle.chew_spec_dictionary.specs.History.{Entry}
use Rattle.chew_spec_cell.specs.Pass.{Cell, Pass}
use Rattle.chew_spec_cell.specs.Sight.{HasSeen}
use Rattle.chew_cell.specs.View.{Sight, View, sight_of, idle, waiting, in_turn, spent_view, ticket_of}
use Rattle.chew_cell.specs.Rule.{IsSightOf}

module _ {S : Type 0} where
  -- the seat holds no ticket and no slot
  abbrev pub IsIdle : Me (Option S) View → Type 0
  IsIdle me = me ≡ (idle me.0.about me.0.sight, [])

  -- it waits with this ticket, as it stands in a word
  abbrev pub IsWaiting : Me (Option S) View → ℕ → Type 0
  IsWaiting me ticket = (me ≡ (waiting me.0.about me.0.sight (ticket_of me.0), [])) × (ticket ≡ ticket_of me.0 % 2 ^ 64)

  -- it is called, and carries this
  abbrev pub IsInTurn : Me (Option S) View → Option S → Type 0
  IsInTurn me carried = me ≡ (in_turn me.0.about me.0.sight (ticket_of me.0), (0, carried) ∷ [])

-- the entries are those that were seen, or these and one more of a number of the sight where they have grown
pub record IsTurned (sight : Sight) (grown : Bool) (now : List Entry) : Type 0 where
  pub same : grown ≡ false → now ≡ sight.seen
  pub more : grown ≡ true → (e : Entry) × (now ≡ sight.seen ++ e ∷ []) × Contains sight.numbers e.who

-- the first view of a badge
abbrev pub first_view : List View → View
first_view [] = spent_view
first_view (v ∷ views) = v

-- the pass of a table, a view and a number
abbrev pub pass_of : TableId → View → ℕ → Pass
pass_of table v who = record { cell = record { table = table; start = v.about.0; seats = v.about.1 }; who = who; seen = v.sight.seen }

-- the view of a pass that is not in its turn
abbrev pub view_of : Pass → View
view_of p = idle (p.cell.start, p.cell.seats) (sight_of p.seen (p.who ∷ []))

-- the seat went from before to after its call: it was called with this value, which begins as the cell does, and has seen
-- its entries; those that its numbers had seen are a sight of them
pub record IsEntered {S : Type 0} (entries : S → List Entry) (start : S → Dictionary) (before after : Me (Option S) View) (value : S) : Type 0 where
  pub ticket : ℕ
  pub now : after ≡ (in_turn before.0.about (sight_of (entries value) before.0.sight.numbers) ticket, (0, None) ∷ [])
  pub start_is : start value ≡ before.0.about.0
  pub seen : IsSightOf (entries value) before.0.sight

-- a called seat of this number without the value, whose holder has seen so many entries
pub record IsHeld {S : Type 0} (me : Me (Option S) View) (who len : ℕ) : Type 0 where
  pub turn : IsInTurn me None
  pub number : me.0.sight.numbers ≡ who ∷ []
  pub length_is : len ≡ length me.0.sight.seen

-- a seat has taken in these passes: their numbers beside its own, and all that they had seen
pub record IsGathered (before : Sight) (passes : List Pass) (after : Sight) : Type 0 where
  pub mine : IsSightOf after.seen before
  pub keeps : (who : ℕ) → Contains before.numbers who → Contains after.numbers who
  pub seen : All (λ p. HasSeen p.who p.seen after.seen) passes
  pub has : All (λ p. Contains after.numbers p.who) passes
  pub count : length after.numbers ≡ length before.numbers + length passes
  pub among : (who : ℕ) → Contains after.numbers who → Contains before.numbers who ⊎ Contains (map (λ p. p.who) passes) who

-- of passes that are all of this cell some are left, and the seat has taken in those behind them
pub record IsGathering {S : Type 0} (cell : Cell) (passes : List Pass) (before : Me (Option S) View) (left : List Pass)
    (now : Me (Option S) View) : Type 0 where
  pub done : List Pass
  pub split : passes ≡ left ++ done
  pub ours : All (λ p. p.cell ≡ cell) left
  pub idle : IsIdle now
  pub gathered : IsGathered before.0.sight done now.0.sight
