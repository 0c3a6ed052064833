-- How much of a history was seen, and what a turn adds to it.
use Rattle.std.specs.Prelude.{◌≡◌, ◌⊎◌, ℕ, List, [], ◌∷◌, ◌++◌, length, nat_lt, if◌then◌else◌}
use Rattle.chew_spec_dictionary.specs.History.{Entry, own}

-- the history begins with what this number has seen, and no entry after that is its own
pub record HasSeen (who : ℕ) (seen history : List Entry) : Type 0 where
  pub later : List Entry
  pub joined : history ≡ seen ++ later
  pub none : own later who ≡ []

-- a turn of this number leaves the entries as they were, or these and one more of its own
abbrev pub IsTurn : ℕ → (before after : List Entry) → Type 0
IsTurn who before after = (after ≡ before) ⊎ ((e : Entry) × (after ≡ before ++ e ∷ []) × (e.who ≡ who))

-- the longer of two lists
abbrev pub longer : (seen other : List Entry) → List Entry
longer seen other = if nat_lt (length seen) (length other) then other else seen
