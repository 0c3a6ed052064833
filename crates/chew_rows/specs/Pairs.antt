-- The pairs of rows, as a set and in an order.
use Rattle.std.specs.Prelude.{◌≡◌, List}
use Rattle.std.specs.declared.cmp.Ordering.{Ordering}
use Rattle.std.specs.List.{list_any}
use Rattle.std.specs.Ordering.{nat_cmp, ordering_then}
use Rattle.std.specs.Cmp.Lexicographic.{slice_cmp}
use Rattle.std.specs.BTreeSet.{BTreeSet, contains}
use Rattle.chew_spec_syllable.specs.Row.{Row, is_pair_of}
use Rattle.chew_rows.specs.declared.pair.Pair.{Pair}
use Rattle.chew_rows.specs.contracts.pair.PairOrd.TheImpl as pair_ord

-- the order of the set
abbrev pub pair_cmp : Pair → Pair → Ordering
pair_cmp = (pair_ord.ghosts).cmp

-- the set has a pair where a row is of it
pub record HasPairsOf (rows : List Row) (pairs : BTreeSet Pair) : Type 0 where
  pub same : (pair : Pair) → contains pair_cmp pairs pair ≡ list_any (is_pair_of pair.key.items pair.phrase.now) rows

-- an order of rows by their pairs
abbrev pub row_cmp : Row → Row → Ordering
row_cmp row other = ordering_then (slice_cmp nat_cmp row.key other.key) (slice_cmp nat_cmp row.phrase other.phrase)
