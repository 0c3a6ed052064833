-- What a seat of the cell's table knows.
use Rattle.std.specs.Prelude.{ℕ, Bool, true, false, List, [], ◌∷◌, ◌++◌, Option, Some, None, unwrap_or}
use Rattle.chew_spec_dictionary.specs.Dictionary.{Dictionary}
use Rattle.chew_spec_dictionary.specs.History.{Entry}
use Rattle.chew_spec_cell.specs.Sight.{longer}

-- a list of entries that was seen, and the numbers that have seen it
pub record Sight : Type 0 where
  pub seen : List Entry
  pub numbers : List ℕ

-- what the cell began with and how many seats it has; what was seen; a ticket, and whether it is called; older sights
-- that this one took in; and whether the seat was given up
pub record View : Type 0 where
  pub about : Dictionary × ℕ
  pub sight : Sight
  pub ticket : Option ℕ
  pub called : Bool
  pub olds : List Sight
  pub spent : Bool

-- these numbers have seen this list; and nobody has seen anything
abbrev pub sight_of : List Entry → List ℕ → Sight
sight_of seen numbers = record { seen = seen; numbers = numbers }

abbrev pub nothing_seen : Sight
nothing_seen = sight_of [] []

-- two sights in one
abbrev pub both : Sight → Sight → Sight
both one other = sight_of (longer one.seen other.seen) (one.numbers ++ other.numbers)

-- a seat that holds no ticket; that waits with one; and that is called
abbrev pub idle : Dictionary × ℕ → Sight → View
idle about sight = record { about = about; sight = sight; ticket = None; called = false; olds = []; spent = false }

abbrev pub waiting : Dictionary × ℕ → Sight → ℕ → View
waiting about sight ticket = record { about = about; sight = sight; ticket = Some ticket; called = false; olds = []; spent = false }

abbrev pub in_turn : Dictionary × ℕ → Sight → ℕ → View
in_turn about sight ticket = record { about = about; sight = sight; ticket = Some ticket; called = true; olds = []; spent = false }

-- what a new seat knows that was split off: as much, and it has no number
abbrev pub note_of : View → View
note_of v = idle v.about (sight_of v.sight.seen [])

-- two seats in one, which keeps both sights as old ones
abbrev pub joined : View → View → View
joined v other = record { about = v.about; sight = both v.sight other.sight; ticket = None; called = false; olds = v.sight ∷ other.sight ∷ []; spent = false }

-- a seat that was joined to another and is given up
abbrev pub spent_view : View
spent_view = record { about = (record { pairs = []; life = 0; cap = 0 }, 0); sight = nothing_seen; ticket = None; called = false; olds = []; spent = true }

abbrev pub ticket_of : View → ℕ
ticket_of v = unwrap_or v.ticket 0
