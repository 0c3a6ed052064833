-- How places follow where some cells are cut out and some put in.
use Rattle.std.specs.Prelude.{ℕ, ◌+◌, ◌-◌}
use Rattle.chew_spec_phrasing.specs.Usable.{Choice}

-- a place behind so many cells that go and so many that come
abbrev pub moved_place : (removed added : ℕ) → ℕ → ℕ
moved_place removed added place = place - removed + added

-- the choice with its place moved
abbrev pub moved_choice : (removed added : ℕ) → Choice → Choice
moved_choice removed added choice = record choice { start = moved_place removed added choice.start }
