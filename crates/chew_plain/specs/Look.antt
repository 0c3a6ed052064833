-- The intervals of a run that begin at one place, and the hits of an interval.
use Rattle.std.specs.Prelude.{ℕ, ◌-◌, List, map, min}
use Rattle.std.specs.List.{range_with_len}
use Rattle.chew_spec_syllable.specs.Row.{Row}
use Rattle.chew_spec_dictionary.specs.Call.{Hit}
use Rattle.chew_spec_dictionary.specs.Look.{Interval, codes_at, hit_of, shown_cmp}
use Rattle.chew_spec_dictionary.specs.Order.{in_order}
use Rattle.chew_spec_dictionary.specs.System.{rows_under}

-- the interval of this start and length
abbrev pub interval : (start len : ℕ) → Interval
interval start len = record { start = start; len = len }

-- the intervals that begin at a place
abbrev pub intervals_from : (count start : ℕ) → List Interval
intervals_from count start = map (λ len. interval start len) (range_with_len 1 (min 11 (count - start)))

-- the hits of an interval
abbrev pub hits_at : List Row → List ℕ → Interval → List Hit
hits_at rows run at = map (hit_of at) (in_order shown_cmp (rows_under rows (codes_at run at)))
