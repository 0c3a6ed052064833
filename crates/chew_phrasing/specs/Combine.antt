-- The combined rows of one interval of a run, and of all that begin at one place.
use Rattle.std.specs.Prelude.{ℕ, ◌-◌, List, map, flat_map, length, min}
use Rattle.std.specs.List.{range_with_len}
use Rattle.chew_spec_syllable.specs.Row.{Row}
use Rattle.chew_spec_dictionary.specs.Call.{Hit}
use Rattle.chew_spec_dictionary.specs.Look.{Interval, codes_at}
use Rattle.chew_spec_phrasing.specs.CombinedRows.{combined, found_rows, shown_hit}

-- the interval of this start and length
abbrev pub interval : (start len : ℕ) → Interval
interval start len = record { start = start; len = len }

-- the combined rows of an interval
unfoldable pub combined_at : List Row → List ℕ → List Hit → Interval → List Hit
combined_at system run hits at = map (shown_hit at) (combined system (found_rows run hits at) (codes_at run at))

-- those of the intervals that begin at a place, by their lengths
abbrev pub combined_from : List Row → List ℕ → List Hit → (start : ℕ) → List Hit
combined_from system run hits start =
    flat_map (λ len. combined_at system run hits (interval start len)) (range_with_len 1 (min 11 (length run - start)))
