-- The rule of the cell's table: what holds between any two steps. Its words are the number of entries, the next ticket,
-- the ticket that is served and the number of passes that were made; its one slot holds the value or nothing.
use Rattle.std.specs.Prelude.{◌≡◌, ℕ, ◌+◌, ◌%◌, ◌^◌, ◌<◌, ◌≤◌, Bool, true, false, List, [], ◌∷◌, ◌++◌, length, All, Contains, Option, Some, None}
use mathlib.Core.Option as maybe
use lib.ListN.{get_elem?}
use Rattle.atomic_table.specs.Table.{State}
use Rattle.chew_spec_dictionary.specs.Dictionary.{Dictionary}
use Rattle.chew_spec_dictionary.specs.History.{Entry, own}
use Rattle.chew_cell.specs.View.{Sight, View}

-- the history begins with this sight, and no entry after it is of one of its numbers
pub record IsSightOf (history : List Entry) (sight : Sight) : Type 0 where
  pub later : List Entry
  pub joined : history ≡ sight.seen ++ later
  pub none : (who : ℕ) → Contains sight.numbers who → own later who ≡ []

-- how far the cell has come: its history; how many tickets were drawn and served; how many passes were made; which seat
-- has each ticket and each number; and whether the value is at home
pub record Course : Type 0 where
  pub history : List Entry
  pub drawn : ℕ
  pub served : ℕ
  pub made : ℕ
  pub seat_with : (ticket : ℕ) → ℕ
  pub seat_of : (who : ℕ) → ℕ
  pub at_home : Bool

abbrev pub words_of : Course → List ℕ
words_of c = length c.history ∷ c.drawn % 2 ^ 64 ∷ c.served % 2 ^ 64 ∷ c.made ∷ []

-- how many tickets a view holds, and how many numbers
abbrev pub held : Option ℕ → ℕ
held None = 0
held (Some ticket) = 1

abbrev pub tickets : View → ℕ
tickets v = held v.ticket

abbrev pub numbers : View → ℕ
numbers v = length v.sight.numbers

abbrev pub total : (View → ℕ) → List View → ℕ
total f [] = 0
total f (v ∷ views) = f v + total f views

-- what the rule says of the view of a seat
pub record Fits (about : Dictionary × ℕ) (c : Course) (seat : ℕ) (v : View) : Type 0 where
  pub about_is : v.spent ≡ false → v.about ≡ about
  pub sight : IsSightOf c.history v.sight
  pub olds : (k : ℕ) (old : Sight) → get_elem? v.olds k ≡ maybe.some old
      → IsSightOf c.history old × ((who : ℕ) → Contains old.numbers who → Contains v.sight.numbers who)
  pub owns : (who : ℕ) → Contains v.sight.numbers who → (who < c.made) × (c.seat_of who ≡ seat)
  pub numbered : tickets v ≤ numbers v
  pub waits : (ticket : ℕ) → v.ticket ≡ Some ticket → (c.served ≤ ticket) × (ticket < c.drawn) × (c.seat_with ticket ≡ seat)
  pub calls : v.called ≡ true → (v.ticket ≡ Some c.served) × (v.sight.seen ≡ c.history) × (c.at_home ≡ false)

module _ {S : Type 0} (entries : S → List Entry) (start : S → Dictionary) where
  -- the value is at home, with the whole history and its start; or it is out, and some view is called
  abbrev pub Slot : Dictionary × ℕ → List Entry → List View → List (maybe.Option (Option S)) → Bool → Type 0
  Slot about history views homes true = (value : S) × (homes ≡ maybe.some (Some value) ∷ []) × (entries value ≡ history) × (start value ≡ about.0)
  Slot about history views homes false = (homes ≡ maybe.none ∷ []) × ((seat : ℕ) × (v : View) × (get_elem? views seat ≡ maybe.some v) × (v.called ≡ true))

  pub record IsKept (about : Dictionary × ℕ) (s : State (Option S) View) : Type 0 where
    pub course : Course
    pub words : s.words ≡ words_of course
    pub slot : Slot about course.history s.views s.homes course.at_home
    pub queue : total tickets s.views + course.served ≡ course.drawn
    pub count : total numbers s.views ≡ course.made
    pub room : course.made ≤ about.1
    pub few : about.1 < 2 ^ 32
    pub known : All (λ e. e.who < course.made) course.history
    pub stands : (who : ℕ) → who < course.made → (v : View) × (get_elem? s.views (course.seat_of who) ≡ maybe.some v) × Contains v.sight.numbers who
    pub each : (seat : ℕ) (v : View) → get_elem? s.views seat ≡ maybe.some v → Fits about course seat v

  abbrev pub Kept : Dictionary × ℕ → State (Option S) View → Type 0
  Kept = IsKept
