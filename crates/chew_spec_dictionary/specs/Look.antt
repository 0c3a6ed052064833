-- What a look-up of a run finds: the rows of each of its intervals.
use Rattle.std.specs.Prelude.{ℕ, ◌-◌, min, List, map, flat_map, length, take, drop}
use Rattle.std.specs.List.{range_with_len}
use Rattle.std.specs.declared.cmp.Ordering.{Ordering}
use Rattle.std.specs.Ordering.{nat_cmp, ordering_then}
use Rattle.std.specs.Cmp.Lexicographic.{slice_cmp}
use Rattle.chew_spec_syllable.specs.Row.{Row}
use Rattle.chew_spec_dictionary.specs.Call.{Hit}
use Rattle.chew_spec_dictionary.specs.HiddenPairs.{is_hidden}
use Rattle.chew_spec_dictionary.specs.Order.{in_order}
use Rattle.chew_spec_dictionary.specs.System.{rows_under}

-- some syllables of a run that follow one another: where they start, and how many they are
pub record Interval : Type 0 where
  pub start : ℕ
  pub len : ℕ

-- the intervals of 1 to 11 syllables of a run of n, by start, then length
abbrev pub intervals : ℕ → List Interval
intervals n = flat_map (λ start. map (λ len. record { start = start; len = len }) (range_with_len 1 (min 11 (n - start)))) (range_with_len 0 n)

-- the syllables of an interval
abbrev pub codes_at : List ℕ → Interval → List ℕ
codes_at run at = take at.len (drop at.start run)

-- the order in which phrases are shown: by frequency falling, then by their bytes
abbrev pub shown_cmp : Row → Row → Ordering
shown_cmp row other = ordering_then (nat_cmp other.freq row.freq) (slice_cmp nat_cmp row.phrase other.phrase)

-- the same of the hits of one interval
abbrev pub shown_hit_cmp : Hit → Hit → Ordering
shown_hit_cmp hit other = ordering_then (nat_cmp other.freq hit.freq) (slice_cmp nat_cmp hit.phrase other.phrase)

-- the row as a hit of the interval
abbrev pub hit_of : Interval → Row → Hit
hit_of at row = record { start = at.start; len = at.len; phrase = row.phrase; freq = row.freq; hidden = is_hidden row }

-- the order of hits: by start, then length, then as phrases are shown
abbrev pub hit_cmp : Hit → Hit → Ordering
hit_cmp hit other = ordering_then (nat_cmp hit.start other.start) (ordering_then (nat_cmp hit.len other.len) (shown_hit_cmp hit other))

-- all rows of all intervals, each with whether it is hidden
unfoldable pub hits_of : List Row → List ℕ → List Hit
hits_of rows run = flat_map (λ at. map (hit_of at) (in_order shown_cmp (rows_under rows (codes_at run at)))) (intervals (length run))
