-- Which pairs of the user's dictionary are hidden. This project's own.
use Rattle.std.specs.Prelude.{ℕ, Bool, not, ◌&&◌, ◌-◌, ◌^◌, List, length, filter, nat_le, ◌==◌}
use Rattle.chew_spec_syllable.specs.Row.{Row}

-- the time of a hidden pair, which no learn gives
abbrev pub hidden_time : ℕ
hidden_time = 2 ^ 64 - 1

-- a phrase can be hidden where its key has at least two syllables
abbrev pub can_hide : List ℕ → Bool
can_hide key = nat_le 2 (length key)

-- the row's pair is hidden
abbrev pub is_hidden : Row → Bool
is_hidden row = can_hide row.key && (row.time == hidden_time)

-- the rows that are not hidden
abbrev pub shown_rows : List Row → List Row
shown_rows rows = filter (λ row. not (is_hidden row)) rows
